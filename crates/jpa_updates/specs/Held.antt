-- What executeUpdate keeps (Jakarta Persistence 3.1, chapter 4.11): the set that is seen then is
-- one that a store can hold.
use Rattle.std.specs.Prelude.{◌≡◌, ◌<◌, ℕ, Bool, true, List, length, Some, Ok}
use Rattle.jpa_value.specs.Value.{fits}
use Rattle.jpa_model.specs.declared.unit.PersistenceUnit.{PersistenceUnit}
use Rattle.jpa_model.specs.declared.unit.Part.{Part}
use Rattle.jpa_model.specs.Chains.{root_of}
use Rattle.jpa_behaviour.specs.Behaviour.{World, AnswersConvertible}
use Rattle.jpa_stored.specs.objects.Sets.{each_fits}
use Rattle.jpa_rows.specs.rows.Cells.{CanBeHeld, all_representable}
use Rattle.jpa_work.specs.context.Work.{Work, object}
use Rattle.jpa_work.specs.context.Steps.{Done}
use Rattle.jpql_grammar.specs.declared.grammar.lists.GivenList.{GivenList}
use Rattle.jpql_trees.specs.declared.tree.Language.{Language}
use Rattle.jpql_trees.specs.declared.tree.Query.{Query}
use Rattle.jpql_trees.specs.tree.Names.{Text}
use Rattle.jpql_types.specs.declared.sort.Sort.{Sort}
use Rattle.jpql_trees.specs.declared.typed.typed.Typed.{Typed}
use Rattle.jpql_types.specs.Statements.{checked}
use Rattle.jpql_meaning.specs.declared.eval.datum.Datum.{Datum}
use Rattle.jpql_bulk.specs.kept.Fits.{are_of, AreInherited}
use Rattle.jpa_asked.specs.declared.asked.Binding.{Binding}
use Rattle.jpa_asked.specs.declared.asked.Statement.{Statement}
use Rattle.jpa_asked.specs.Asking.{sorts_of, arguments_of}
use Rattle.jpa_asked.specs.Premises.{AreInHeap}
use Rattle.jpa_flush.specs.flush.Flush.{flush_if}
use Rattle.jpa_updates.specs.Updates.{with_view, run_bulk, execute_update}

-- a statement of a language that was checked for arguments of these sorts, asked of a work that sees a set which
-- a store can hold
pub record IsAsked (world : World) (query : Query) (sorts : List (Text × Sort)) (typed : Typed) (arguments : List Datum)
    (w : Work) : Type 0 where
  pub convertible : AnswersConvertible world
  pub inherited : AreInherited world.model
  pub held : CanBeHeld world w.view w.numbers
  pub given : are_of world.model sorts arguments ≡ true
  pub language : Language
  pub checked : checked language world.model query sorts ≡ Ok typed

-- a store can hold the set that is seen then, and nothing else of the work changed
pub record IsHeld (world : World) (w v : Work) : Type 0 where
  pub set : CanBeHeld world v.view v.numbers
  pub others : v ≡ with_view v.view w

-- the keys of live objects have the parts of their hierarchies; they may be null
abbrev pub HaveKeys : PersistenceUnit → Work → Type 0
HaveKeys m w = (n : ℕ) → n < length w.objects → each_fits (λ (part : Part) v. fits part.kind v)
    (root_of m (object w n).class).key (object w n).key ≡ true

-- What executeUpdate leaves, by what the flush before it left: a set that a store can hold, where
-- it could hold that one and the values are the program's; nothing else changed.
pub record IsExecuted (world : World) (flushes : Bool) (w v : Work) : Type 0 where
  pub flushed : Work
  pub flush : flush_if flushes world w ≡ Done tt flushed
  pub kept : CanBeHeld world flushed.view flushed.numbers → all_representable v.view ≡ true → IsHeld world flushed v

-- executeUpdate of a unit.
pub record UpdateLaws (world : World) : Type 0 where
  -- what is bound to parameters is of their sorts
  pub bound : (bindings : List Binding) (w : Work) → HaveKeys world.model w → AreInHeap w.objects bindings →
      (ds : List Datum) → arguments_of world.model bindings w ≡ Some ds
      → are_of world.model (sorts_of world.model bindings w) ds ≡ true
  -- the set that is seen then a store can hold, where its values are the program's
  pub kept : (query : Query) (sorts : List (Text × Sort)) (q : Statement) (w v : Work) (k : ℕ) →
      IsAsked world query sorts q.typed q.arguments w
      → run_bulk world q w ≡ Done k v → all_representable v.view ≡ true → IsHeld world w v
  -- what was bound is what was checked, so that of the flush alone something is asked
  pub executed : (is_active flushes : Bool) (language : Language) (lists : List GivenList) (text : Text)
      (bindings : List Binding) (w v : Work) (k : ℕ) → AnswersConvertible world → AreInherited world.model
      → HaveKeys world.model w → AreInHeap w.objects bindings
      → execute_update world is_active flushes language lists text bindings w ≡ Done k v → IsExecuted world flushes w v
