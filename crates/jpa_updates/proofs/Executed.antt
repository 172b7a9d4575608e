-- What executeUpdate leaves, by its steps.
use Rattle.std.proofs.Common.{◌≡◌, ◌∙◌, refl, ap, sym, subst, ℕ, Bool, true, false, ◌&&◌, List}
use Rattle.std.specs.Prelude.{Option, Some, None, Result, Ok, Err}
use Rattle.jpa_value.specs.declared.refusal.Cause.{Cause}
use Rattle.jpa_value.specs.declared.refusal.Argument.{Argument}
use Rattle.jpa_value.specs.declared.refusal.State.{State}
use Rattle.jpa_model.specs.declared.unit.PersistenceUnit.{PersistenceUnit}
use Rattle.jpa_behaviour.specs.Behaviour.{World, AnswersConvertible}
use Rattle.jpa_work.specs.context.Work.{Work}
use Rattle.jpa_work.specs.context.Steps.{Outcome, Done, Refused, Op, after, give, require}
use Rattle.jpql_grammar.specs.declared.grammar.lists.GivenList.{GivenList}
use Rattle.jpql_trees.specs.declared.tree.Language.{Language}
use Rattle.jpql_trees.specs.declared.tree.Query.{Query}
use Rattle.jpql_trees.specs.tree.Names.{Text}
use Rattle.jpql_types.specs.Statements.{checked}
use Rattle.jpql_bulk.specs.kept.Fits.{AreInherited}
use Rattle.jpa_asked.specs.declared.asked.Binding.{Binding}
use Rattle.jpa_asked.specs.declared.asked.Reading.{Reading}
use Rattle.jpa_asked.specs.declared.asked.Statement.{Statement}
use Rattle.jpa_asked.specs.Asking.{give_or, given, read_of, sorts_of, arguments_of, are_apart, statement_of}
use Rattle.jpa_asked.specs.Premises.{AreInHeap}
use Rattle.jpa_flush.specs.flush.Flush.{flush_if}
use Rattle.jpa_asked.specs.Reading.{tokens_in, query_of, are_used_in, is_within, declares_few}
use Rattle.jpa_updates.specs.Held.{HaveKeys, IsExecuted}
use Rattle.jpa_updates.specs.Updates.{is_bulk, judged_bulk, execute_update}
use Rattle.jpa_updates.proofs.Arguments.{arguments_are}
use Rattle.jpa_updates.proofs.Held.{bulk_held}

-- ---- one step after another

record AreSteps {A B : Type 0} (o : Outcome A) (f : A → Op B) (b : B) (v : Work) : Type 0 where
  answer : A
  between : Work
  first : o ≡ Done answer between
  second : f answer between ≡ Done b v

steps_of : {A B : Type 0} (o : Outcome A) (f : A → Op B) (b : B) (v : Work) → after o f ≡ Done b v → AreSteps o f b v
steps_of (Done a u) f b v h = record { answer = a; between = u; first = refl; second = h }
steps_of (Refused r events) f b v h = absurd cc

same_done : {A : Type 0} (a b : A) (u v : Work) → Done a u ≡ Done b v → (a ≡ b) × (u ≡ v)
same_done a b u v h = (let same : a ≡ b = cc in same, let then : u ≡ v = cc in then)

required : (b : Bool) (r : Cause) (w v : Work) → require b r w ≡ Done tt v → w ≡ v
required true r w v h = (same_done tt tt w v h).1
required false r w v h = absurd cc

given_or : {A : Type 0} (r : Cause) (o : Option A) (a : A) (w v : Work) → give_or r o w ≡ Done a v → (o ≡ Some a) × (w ≡ v)
given_or r None a w v h = absurd cc
given_or r (Some x) a w v h = let same = same_done x a w v h in (ap Some same.0, same.1)

given_ok : {A : Type 0} (r : Result A Cause) (a : A) (w v : Work) → given r w ≡ Done a v → (r ≡ Ok a) × (w ≡ v)
given_ok (Ok x) a w v h = let same = same_done x a w v h in (ap Ok same.0, same.1)
given_ok (Err r) a w v h = absurd cc

-- ---- what is judged

by_limits : (a b : Bool) (found said : Reading) (w v : Work) → after (require a Cause.Limit w) (λ _ u. after (require b Cause.Limit u) (λ _. give found)) ≡ Done said v → w ≡ v
by_limits true true found said w v h = (same_done found said w v h).1
by_limits true false found said w v h = absurd cc
by_limits false b found said w v h = absurd cc

record IsStatement (l : Language) (m : PersistenceUnit) (bindings : List Binding) (w : Work) (q : Statement) : Type 0 where
  query : Query
  typed : checked l m query (sorts_of m bindings w) ≡ Ok q.typed
  arguments : arguments_of m bindings w ≡ Some q.arguments

module _ (m : PersistenceUnit) (lists : List GivenList) (bindings : List Binding) where
  stated : (l : Language) (tree : Option Query) (uses : Bool) (q : Statement) (w v : Work) → statement_of l m (record { tree = tree; uses_lists = uses }) lists bindings w ≡ Done q v
      → IsStatement l m bindings w q × (w ≡ v)
  stated l None uses q w v h = absurd cc
  stated l (Some query) uses q w v h =
      let a = steps_of (given (checked l m query (sorts_of m bindings w)) w) _ q v h in
      let typed = given_ok (checked l m query (sorts_of m bindings w)) a.answer w a.between a.first in
      let r = steps_of (require (uses && are_apart lists bindings) (Cause.IllegalArgument Argument.Parameter) a.between) _ q v a.second in
      let apart = required (uses && are_apart lists bindings) (Cause.IllegalArgument Argument.Parameter) a.between r.between r.first in
      let b = steps_of (give_or (Cause.IllegalArgument Argument.Parameter) (arguments_of m bindings r.between) r.between) _ q v r.second in
      let found = given_or (Cause.IllegalArgument Argument.Parameter) (arguments_of m bindings r.between) b.answer r.between b.between b.first in
      let last = same_done (record { typed = a.answer; arguments = b.answer }) q b.between v b.second in (
        record {
          query = query;
          typed = typed.0 ∙ ap (λ (s : Statement). Ok s.typed) last.0;
          arguments = ap (arguments_of m bindings) (typed.1 ∙ apart) ∙ found.0 ∙ ap (λ (s : Statement). Some s.arguments) last.0;
        },
        typed.1 ∙ apart ∙ found.1 ∙ last.1,
      )

  read_only : (l : Language) (text : Text) (said : Reading) (w v : Work) → read_of l lists text w ≡ Done said v → w ≡ v
  read_only l text said w v h =
      by_limits (is_within l lists text) (declares_few (query_of l lists text)) (record { tree = query_of l lists text; uses_lists = are_used_in lists (tokens_in l text) }) said w v h

  judged : (is_active : Bool) (l : Language) (text : Text) (q : Statement) (w v : Work) → judged_bulk m is_active l lists text bindings w ≡ Done q v → IsStatement l m bindings w q × (w ≡ v)
  judged is_active l text q w v h =
      let a = steps_of (read_of l lists text w) _ q v h in
      let b = steps_of (require is_active Cause.TransactionRequired a.between) _ q v a.second in
      let c = steps_of (statement_of l m a.answer lists bindings b.between) _ q v b.second in
      let d = steps_of (require (is_bulk c.answer.typed) (Cause.IllegalState State.Statement) c.between) _ q v c.second in
      let so_far = read_only l text a.answer w a.between a.first ∙ required is_active Cause.TransactionRequired a.between b.between b.first in
      let s = stated l a.answer.tree a.answer.uses_lists c.answer b.between c.between c.first in
      let last = same_done c.answer q d.between v d.second in (
        subst (λ (u : Work). IsStatement l m bindings u q) (sym so_far) (subst (IsStatement l m bindings b.between) last.0 s.0),
        so_far ∙ s.1 ∙ required (is_bulk c.answer.typed) (Cause.IllegalState State.Statement) c.between d.between d.first ∙ last.1,
      )

pub executed : (world : World) (is_active flushes : Bool) (language : Language) (lists : List GivenList) (text : Text) (bindings : List Binding) (w v : Work) (k : ℕ) → AnswersConvertible world → AreInherited world.model
    → HaveKeys world.model w → AreInHeap w.objects bindings → execute_update world is_active flushes language lists text bindings w ≡ Done k v → IsExecuted world flushes w v
executed world is_active flushes language lists text bindings w v k convertible inherited keys bound h =
    let m = world.model in
    let a = steps_of (judged_bulk m is_active language lists text bindings w) _ k v h in
    let s = judged m lists bindings is_active language text a.answer w a.between a.first in
    let b = steps_of (flush_if flushes world a.between) _ k v a.second in
    let statement = s.0 in
    record {
      flushed = b.between;
      flush = ap (flush_if flushes world) s.1 ∙ b.first;
      kept = λ held values.
          bulk_held world statement.query (sorts_of m bindings w) a.answer b.between v k
          (record {
            convertible = convertible;
            inherited = inherited;
            held = held;
            given = arguments_are m w keys bindings bound a.answer.arguments statement.arguments;
            language = language;
            checked = statement.typed;
          })
          b.second values;
    }
