-- What is written of the answer to a question, and whose answer it is.
use Rattle.std.specs.Prelude.{◌≡◌, ℕ, List, Option, None, Result, Ok, Err, IfOk}
use Rattle.std.specs.List.{flat_map}
use Rattle.std.specs.Io.{StartsWith}
use Rattle.std.specs.Io.KnownBytes.{Appends, Keeps}
use Rattle.sqlite_trees.specs.declared.store.Store.{Ghosts as StoreGhosts}
use Rattle.sqlite.specs.Held.{Held}
use Rattle.jpa_value.specs.declared.refusal.Cause.{Cause}
use Rattle.jpa_model.specs.declared.unit.PersistenceUnit.{PersistenceUnit}
use Rattle.jpa_behaviour.specs.Registered.{Meaning}
use Rattle.jpa_behaviour.specs.Served.{world_of_unit}
use Rattle.jpa_behaviour.specs.declared.served_unit.ServedUnit.{ServedUnit}
use Rattle.jpa_stored.specs.objects.Sets.{StoredSet}
use Rattle.jpa_cells.specs.meaning.Store.{IsClean}
use Rattle.jpa_rows.specs.rows.Rows.{Rows}
use Rattle.jpa_rows.specs.rows.Tables.{schema_of}
use Rattle.jpa_cells.specs.rowspace.Space.{HoldsRows}
use Rattle.jpa_questions.specs.row_queries.Answered.{Answers}
use Rattle.jpa_questions.specs.row_queries.Seen.{AreJustOf}
use Rattle.jpa_lines.specs.declared.lines.run.RunFault.{RunFault}
use Rattle.jpa_questions.specs.by_key.ByKey.{key_of}
use Rattle.jpql_meaning.specs.declared.eval.datum.Datum.{Datum}
use Rattle.jpql_meaning.specs.plan.Selection.{selected}
use Rattle.jpa_questions.specs.questions.Asking.{HoldsSet}
use Rattle.jpa_questions.specs.questions.Lines.{row_text}
use Rattle.jpa_questions.specs.declared.questions.question.Question.{Question}
use Rattle.jpa_questions.specs.declared.questions.telling.Untold.{Untold}

module _ (m : PersistenceUnit) (before after : Option (List ℕ)) where
  -- the rows are written, a line each; where memory lacks for the lines nothing is, and where the
  -- output fails a front of them
  abbrev pub TellsRows : List (List Datum) → Result (Unit {0}) Untold → Type 0
  TellsRows rows (Ok x) = Appends before after (flat_map (row_text m) rows)
  TellsRows rows (Err (Untold.Refused cause)) = (cause ≡ Cause.OutOfMemory) × Keeps before after
  TellsRows rows (Err (Untold.Broken fault)) =
      (fault ≡ RunFault.Write)
      × ((part : List ℕ) × StartsWith (flat_map (row_text m) rows) part × Appends before after part)

  -- the rows that were found are written; what was refused is refused so, and nothing is written
  abbrev pub TellsAnswer : Result (List (List Datum)) Cause → Result (Unit {0}) Untold → Type 0
  TellsAnswer (Ok rows) result = TellsRows rows result
  TellsAnswer (Err cause) result = (result ≡ Err (Untold.Refused cause)) × Keeps before after

module _ {S B L C : Type 0} (g : StoreGhosts S) (meaning : Meaning L C) where
  -- The answer is the question's over the store of a connection, where the one that is handed back is
  -- clean: what the SELECT gives over the set whose rows are there (chapter 4.2.1); and where all rows
  -- are read there are answers only over those of a set.
  pub record IsFound (unit : ServedUnit B L C) (q : Question) (conn last : Held S)
      (answer : Result (List (List Datum)) Cause) : Type 0 where
    pub answers : IsClean g last → (set : StoredSet) (numbers : List ℕ) →
        HoldsSet g (world_of_unit meaning unit) conn set numbers →
        Answers answer (selected unit.metamodel set q.arguments q.select)
    pub whole : IsClean g last → key_of unit.metamodel q.arguments q.select ≡ None →
        (rows : Rows) → HoldsRows g (schema_of unit.metamodel) conn rows →
        IfOk answer (λ _. (set : StoredSet) × AreJustOf (world_of_unit meaning unit) rows set)
