-- What is asked, part by part.
use Rattle.std.proofs.Common.{◌≡◌, ◌∙◌, Bool, true, List, Result, Ok, Err, ap, sym, subst}
use Rattle.std.specs.Prelude.{◌&&◌}
use Rattle.jpa_value.specs.declared.refusal.Cause.{Cause}
use Rattle.jpa_value.specs.declared.refusal.Argument.{Argument}
use Rattle.jpa_model.specs.declared.unit.PersistenceUnit.{PersistenceUnit}
use Rattle.jpa_work.specs.context.Steps.{◌>>=◌, ◌>>◌, Op, Outcome, Done, after, require, Meets, IsRefusedAs}
use Rattle.jpa_work.specs.context.Work.{Work}
use Rattle.jpa_operations.proofs.fetch.Loaded.{refused_after}
use Rattle.jpql_trees.specs.declared.typed.typed.TypedSelect.{TypedSelect}
use Rattle.jpql_meaning.specs.declared.eval.datum.Datum.{Datum}
use Rattle.jpa_asked.specs.declared.asked.Asked.{Asked}
use Rattle.jpa_asked.specs.declared.asked.Reading.{Reading}
use Rattle.jpa_asked.specs.declared.asked.Statement.{Statement}
use Rattle.jpa_asked.specs.Asking.{read_of, statement_of}
use Rattle.jpa_queries.specs.Queries.{is_count, judged, select_asked}

-- what follows once the text is read
abbrev stated : PersistenceUnit → Asked → Reading → Op (TypedSelect × List Datum)
stated m call said =
    require (is_count call.first && is_count call.max) (Cause.IllegalArgument Argument.Range)
    >> (statement_of call.language m said call.lists call.bindings >>= select_asked)

module _ (m : PersistenceUnit) (call : Asked) (w : Work) (said : Reading) (is_read : read_of call.language call.lists call.text w ≡ Done said w)
    (counts : (is_count call.first && is_count call.max) ≡ true) where
  asked_so : judged m call w ≡ after (statement_of call.language m said call.lists call.bindings w) select_asked
  asked_so =
      ap (λ (o : Outcome Reading). after o (stated m call)) is_read
      ∙ ap (λ b. after (require b (Cause.IllegalArgument Argument.Range) w) (λ _. statement_of call.language m said call.lists call.bindings >>= select_asked)) counts

  -- the statement is refused
  pub judged_refused : (r : Cause) → IsRefusedAs r w.events (statement_of call.language m said call.lists call.bindings w) → IsRefusedAs r w.events (judged m call w)
  judged_refused r h = subst (IsRefusedAs r w.events) (sym asked_so) (refused_after r w.events (statement_of call.language m said call.lists call.bindings w) select_asked h)

  -- there is a statement
  pub judged_so : (statement : Statement) (r : Result (TypedSelect × List Datum) Cause) → statement_of call.language m said call.lists call.bindings w ≡ Done statement w
      → Meets r w (select_asked statement w) → Meets r w (judged m call w)
  judged_so statement r is h = subst (Meets r w) (sym (asked_so ∙ ap (λ (o : Outcome Statement). after o select_asked) is)) h
