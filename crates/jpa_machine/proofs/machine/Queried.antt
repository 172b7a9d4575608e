-- What queries keep: they read, flush where the mode says so, and load what their rows tell.
use Rattle.std.proofs.Common.{◌≡◌, ℕ, ℤ, Bool, true, false, List, [], ◌∷◌, refl, sym, subst}
use Rattle.std.specs.Prelude.{Option, Some, None, Result, Ok, Err, length, ◌&&◌}
use Rattle.jpa_value.specs.declared.refusal.Argument.{Argument}
use Rattle.jpa_value.specs.declared.refusal.Cause.{Cause}
use Rattle.jpa_value.specs.declared.refusal.State.{State}
use Rattle.jpa_model.specs.declared.unit.PersistenceUnit.{PersistenceUnit}
use Rattle.jpa_behaviour.specs.Behaviour.{World}
use Rattle.jpa_protocol.specs.declared.call.Parameter.{Parameter}
use Rattle.jpa_protocol.specs.declared.reply.Answer.{Answer}
use Rattle.jpa_protocol.specs.declared.reply.Item.{Item}
use Rattle.jpa_work.specs.context.Work.{Work}
use Rattle.jpa_work.specs.context.Steps.{Op, Outcome, Done, Refused, after}
use Rattle.jpa_operations.specs.fetch.Load.{reach}
use Rattle.jpa_operations.specs.fetch.Members.{collect}
use Rattle.jpa_flush.specs.flush.Flush.{flush}
use Rattle.jpql_trees.specs.declared.tree.Language.{Language}
use Rattle.jpql_grammar.specs.declared.grammar.lists.GivenList.{GivenList}
use Rattle.jpql_trees.specs.tree.Names.{Text}
use Rattle.jpql_types.specs.Statements.{checked}
use Rattle.jpql_trees.specs.declared.typed.typed.TypedSelect.{TypedSelect}
use Rattle.jpql_meaning.specs.declared.eval.datum.Datum.{Datum}
use Rattle.jpql_meaning.specs.eval.Answers as answers
use Rattle.jpql_meaning.specs.plan.Selection.{selected}
use Rattle.jpa_asked.specs.declared.asked.Asked.{Asked}
use Rattle.jpa_asked.specs.declared.asked.Binding.{Binding}
use Rattle.jpa_asked.specs.declared.asked.Reading.{Reading}
use Rattle.jpa_asked.specs.declared.asked.Statement.{Statement}
use Rattle.jpa_asked.specs.Asking.{give_or, given, read_of, are_apart, statement_of, sorts_of, arguments_of, select_in}
use Rattle.jpa_asked.specs.Reading.{query_of, is_within, declares_few}
use Rattle.jpa_flush.specs.flush.Flush.{flush_if}
use Rattle.jpa_queries.specs.Queries.{answer, judged, table_of, rows_found, rows_asked, item_of, row_of, query, the_one, query_single, is_count}
use Rattle.jpa_machine.specs.machine.Calls as calls
use Rattle.jpa_machine.specs.machine.Querying.{are_short, asked_of, bindings_in, bound, query_call, query_single_call, values_of}
use Rattle.jpa_machine.specs.machine.Going.{HoldsAfter}
use Rattle.jpa_machine.proofs.machine.Going.{More, after_holds, require_holds}
use Rattle.jpa_machine.proofs.machine.Members.{Leads}
use Rattle.jpa_machine.proofs.machine.Laws.{Steps, reach_goes}
use Rattle.jpa_machine.proofs.machine.Handed.{told_holds}

-- ---- what only reads

abbrev pub IsRead : {A : Type 0} → Op A → Type 0
IsRead op = (w : Work) → HoldsAfter (λ a v. v ≡ w) (op w)

pub then_read : {A B : Type 0} (K : B → Work → Type 0) (op : Op A) (f : A → Op B) (w : Work) → IsRead op → ((a : A) → HoldsAfter K (f a w)) → HoldsAfter K (after (op w) f)
then_read K op f w h next = after_holds K (λ a v. v ≡ w) (op w) f (h w) (λ a v e. subst (λ v'. HoldsAfter K (f a v')) (sym e) (next a))

pub given_or_reads : {A : Type 0} (r : Cause) (o : Option A) → IsRead (give_or r o)
given_or_reads r None w = tt
given_or_reads r (Some a) w = refl

pub given_reads : {A : Type 0} (o : Result A Cause) → IsRead (given o)
given_reads (Ok a) w = refl
given_reads (Err r) w = tt

pub read_of_reads : (l : Language) (lists : List GivenList) (text : Text) → IsRead (read_of l lists text)
read_of_reads l lists text w =
    let K : Reading → Work → Type 0 = λ a v. v ≡ w in
    require_holds K (is_within l lists text) Cause.Limit w _ (λ within. require_holds K (declares_few (query_of l lists text)) Cause.Limit w _ (λ few. refl))

pub statement_of_reads : (l : Language) (m : PersistenceUnit) (said : Reading) (lists : List GivenList) (bindings : List Binding) → IsRead (statement_of l m said lists bindings)
statement_of_reads l m said lists bindings w =
    let K : Statement → Work → Type 0 = λ s v. v ≡ w in
    then_read K (give_or (Cause.IllegalArgument Argument.Syntax) said.tree) _ w (given_or_reads (Cause.IllegalArgument Argument.Syntax) said.tree) (λ q.
    let o = checked l m q (sorts_of m bindings w) in
    then_read K (given o) _ w (given_reads o) (λ typed.
    require_holds K (said.uses_lists && are_apart lists bindings) (Cause.IllegalArgument Argument.Parameter) w _ (λ apart.
    let found = arguments_of m bindings w in
    then_read K (give_or (Cause.IllegalArgument Argument.Parameter) found) _ w (given_or_reads (Cause.IllegalArgument Argument.Parameter) found) (λ arguments. refl))))

judged_reads : (m : PersistenceUnit) (call : Asked) → IsRead (judged m call)
judged_reads m call w =
    let K : TypedSelect × List Datum → Work → Type 0 = λ q v. v ≡ w in
    then_read K (read_of call.language call.lists call.text) _ w (read_of_reads call.language call.lists call.text) (λ said.
    require_holds K (is_count call.first && is_count call.max) (Cause.IllegalArgument Argument.Range) w _ (λ counts.
    then_read K (statement_of call.language m said call.lists call.bindings) _ w (statement_of_reads call.language m said call.lists call.bindings) (λ statement.
    then_read K (give_or (Cause.IllegalState State.Statement) (select_in statement.typed)) _ w (given_or_reads (Cause.IllegalState State.Statement) (select_in statement.typed)) (λ select. refl))))

answer_reads : {A : Type 0} (a : answers.Answer A) → IsRead (answer a)
answer_reads (answers.gives x) w = refl
answer_reads answers.overflows w = tt

rows_found_reads : (m : PersistenceUnit) (select : TypedSelect) (arguments : List Datum) (first max : Option ℤ) → IsRead (rows_found m select arguments first max)
rows_found_reads m select arguments first max w = then_read _ (table_of m select arguments) _ w (λ v. answer_reads (selected m v.view arguments select) v) (λ rows. refl)

the_one_reads : (rows : List (List Datum)) → IsRead (the_one rows)
the_one_reads [] w = tt
the_one_reads (row ∷ []) w = refl
the_one_reads (row ∷ other ∷ rows) w = tt

-- ---- what is bound to parameters

bindings_read : (r : Cause) (o : Option (List Binding)) → IsRead (calls.give_or r o)
bindings_read r None w = tt
bindings_read r (Some bs) w = refl

pub bound_reads : (ps : List Parameter) → IsRead (bound ps)
bound_reads ps w =
    let K : List Binding → Work → Type 0 = λ a v. v ≡ w in
    let found = bindings_in (length w.objects) (values_of ps) in
    then_read K (calls.give_or Cause.NoSuchObject found) _ w (bindings_read Cause.NoSuchObject found) (λ bs. require_holds K (are_short ps) Cause.Limit w _ (λ short. refl))

asked_of_reads : (l : Language) (text : Text) (ps : List Parameter) (first max : Option ℤ) → IsRead (asked_of l text ps first max)
asked_of_reads l text ps first max w = then_read (λ a v. v ≡ w) (bound ps) _ w (bound_reads ps) (λ bs. refl)

-- ---- with what the steps and a flush keep

module _ {world : World} {P : Work → Type 0} (steps : Steps world P) (flushed : (w : Work) → P w → HoldsAfter (λ u v. P v) (flush world w)) where
  flush_if_goes : (b : Bool) (w : Work) → P w → HoldsAfter (λ u v. P v) (flush_if b world w)
  flush_if_goes true w p = flushed w p
  flush_if_goes false w p = p

  collect_goes : {A B : Type 0} (f : A → Op B) → ((x : A) (w : Work) → P w → HoldsAfter (λ y v. P v) (f x w)) → (xs : List A) (w : Work) → P w → HoldsAfter (λ ys v. P v) (collect f xs w)
  collect_goes f h [] w p = p
  collect_goes f h (x ∷ xs) w p =
      after_holds (λ a v. P v) (λ a v. P v) (f x w) _ (h x w p) (λ y v q.
      after_holds (λ a u. P u) (λ a u. P u) (collect f xs v) _ (collect_goes f h xs v q) (λ ys u s. s))

  item_goes : (d : Datum) (w : Work) → P w → HoldsAfter (λ i v. P v) (item_of world d w)
  item_goes (Datum.Plain x) w p = p
  item_goes (Datum.Entity id) w p =
      after_holds (λ (i : Item) v. P v) (λ (n : ℕ) v. P v) (reach world Cause.EntityNotFound id w) _ (reached_holds (reach world Cause.EntityNotFound id w) (reach_goes steps Cause.EntityNotFound id w p)) (λ n v q. q)
    where
      reached_holds : (o : Outcome ℕ) → HoldsAfter (λ n v. P v × More w v × Leads world.model id n v) o → HoldsAfter (λ n v. P v) o
      reached_holds (Done n v) h = h.0
      reached_holds (Refused r events) h = tt

  row_goes : (row : List Datum) (w : Work) → P w → HoldsAfter (λ i v. P v) (row_of world row w)
  row_goes = collect_goes (item_of world) item_goes

  rows_asked_goes : (flushes : Bool) (call : Asked) (w : Work) → P w → HoldsAfter (λ rows v. P v) (rows_asked world flushes call w)
  rows_asked_goes flushes call w p =
      let K : List (List Datum) → Work → Type 0 = λ rows v. P v in
      let m = world.model in
      then_read K (judged m call) _ w (judged_reads m call) (λ q.
      after_holds K (λ u v. P v) (flush_if flushes world w) _ (flush_if_goes flushes w p) (λ u v r.
      weaker_read (rows_found m q.0 q.1 call.first call.max v) v r (rows_found_reads m q.0 q.1 call.first call.max v)))
    where
      weaker_read : (o : Outcome (List (List Datum))) (v : Work) → P v → HoldsAfter (λ rows u. u ≡ v) o → HoldsAfter (λ rows u. P u) o
      weaker_read (Done rows u) v r e = subst P (sym e) r
      weaker_read (Refused cause events) v r e = tt

  query_goes : (flushes : Bool) (call : Asked) (w : Work) → P w → HoldsAfter (λ rows v. P v) (query world flushes call w)
  query_goes flushes call w p =
      after_holds (λ rows v. P v) (λ rows v. P v) (rows_asked world flushes call w) _ (rows_asked_goes flushes call w p) (λ rows v q. collect_goes (row_of world) row_goes rows v q)

  query_single_goes : (flushes : Bool) (call : Asked) (w : Work) → P w → HoldsAfter (λ row v. P v) (query_single world flushes call w)
  query_single_goes flushes call w p =
      let K : List Item → Work → Type 0 = λ row v. P v in
      after_holds K (λ rows v. P v) (rows_asked world flushes call w) _ (rows_asked_goes flushes call w p) (λ rows v q.
      then_read K (the_one rows) _ v (the_one_reads rows) (λ row. row_goes row v q))

  -- ---- with what the calls hand in

  pub query_call_goes : (text : Text) (ps : List Parameter) (first max : Option ℤ) (flushes : Bool) (w : Work) → P w → HoldsAfter (λ a v. P v) (query_call text ps first max flushes world w)
  query_call_goes text ps first max flushes w p =
      then_read (λ a v. P v) (asked_of world.language text ps first max) _ w (asked_of_reads world.language text ps first max) (λ call. told_holds P Answer.Rows (query world flushes call w) (query_goes flushes call w p))

  pub query_single_call_goes : (text : Text) (ps : List Parameter) (first max : Option ℤ) (flushes : Bool) (w : Work) → P w → HoldsAfter (λ a v. P v) (query_single_call text ps first max flushes world w)
  query_single_call_goes text ps first max flushes w p =
      then_read (λ a v. P v) (asked_of world.language text ps first max) _ w (asked_of_reads world.language text ps first max) (λ call. told_holds P Answer.Row (query_single world flushes call w) (query_single_goes flushes call w p))
