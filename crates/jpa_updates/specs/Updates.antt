-- executeUpdate of a manager (Jakarta Persistence 3.1, chapters 3.10.1 and 4.11 bulk UPDATE and
-- DELETE).
use Rattle.std.specs.Prelude.{◌≡◌, ℕ, Bool, true, false, T, List, Result, Err}
use Rattle.std.specs.FinMap.Entries.{is_sorted}
use Rattle.jpa_value.specs.declared.refusal.Cause.{Cause}
use Rattle.jpa_value.specs.declared.refusal.State.{State}
use Rattle.jpa_value.specs.Value.{identity_cmp}
use Rattle.jpa_model.specs.declared.unit.PersistenceUnit.{PersistenceUnit}
use Rattle.jpa_behaviour.specs.Behaviour.{World}
use Rattle.jpa_stored.specs.objects.Sets.{StoredSet, fault_of, all_shaped, IsSound}
use Rattle.jpa_work.specs.context.Work.{Work}
use Rattle.jpa_work.specs.context.Steps.{◌>>=◌, ◌>>◌, Op, Done, give, require, read, change}
use Rattle.jpa_flush.specs.flush.Flush.{sound_or}
use Rattle.jpql_grammar.specs.declared.grammar.lists.GivenList.{GivenList}
use Rattle.jpql_trees.specs.declared.tree.Language.{Language}
use Rattle.jpql_trees.specs.tree.Names.{Text}
use Rattle.jpql_trees.specs.declared.typed.typed.Typed.{Typed}
use Rattle.jpql_meaning.specs.declared.eval.datum.Datum.{Datum}
use Rattle.jpql_meaning.specs.plan.Bulk.{Changed, updated, deleted}
use Rattle.jpql_bulk.specs.kept.Fits.{throws_in}
use Rattle.jpa_asked.specs.declared.asked.Binding.{Binding}
use Rattle.jpa_asked.specs.declared.asked.Statement.{Statement}
use Rattle.jpa_asked.specs.Asking.{given, read_of, statement_of}
use Rattle.jpa_flush.specs.flush.Flush.{flush_if}

-- ---- what is asked

-- whether a statement is an UPDATE or a DELETE
abbrev pub is_bulk : Typed → Bool
is_bulk (Typed.Select q) = false
is_bulk (Typed.Update class assignments filter) = true
is_bulk (Typed.Delete class is_named filter) = true

-- a statement that changes objects, in a transaction, with what stands for its parameters
abbrev pub judged_bulk : PersistenceUnit → Bool → Language → List GivenList → Text → List Binding → Op Statement
judged_bulk m is_active language lists text bindings = do
  said ← read_of language lists text
  require is_active Cause.TransactionRequired
  statement ← statement_of language m said lists bindings
  require (is_bulk statement.typed) (Cause.IllegalState State.Statement)
  give statement

-- ---- what it does

-- what a statement makes of the set that a manager sees, and how many objects it concerned; a
-- SELECT makes nothing
abbrev pub changed_by : World → Typed → List Datum → StoredSet → Result Changed Cause
changed_by world (Typed.Select q) arguments s = Err (Cause.IllegalState State.Statement)
changed_by world (Typed.Update class assignments filter) arguments s =
    updated world.model s arguments (throws_in world) class assignments filter
changed_by world (Typed.Delete class is_named filter) arguments s =
    deleted world.model s arguments class is_named filter

-- a work that sees this set
abbrev pub with_view : StoredSet → Work → Work
with_view s w = record w { view = s }

-- the new set is seen where it is sound; the number of objects is the answer
abbrev pub settle : PersistenceUnit → Changed → Op ℕ
settle m c = do
  sound_or (fault_of m c.0)
  change (with_view c.0)
  give c.1

-- the new set is seen, or the refusal is given
abbrev pub settled : PersistenceUnit → Result Changed Cause → Op ℕ
settled m r = given r >>= settle m

-- the set that the statement makes is seen (chapter 4.11)
abbrev pub run_bulk : World → Statement → Op ℕ
run_bulk world q = read (λ w. changed_by world q.typed q.arguments w.view) >>= settled world.model

-- in a transaction, under flush mode AUTO after a flush
abbrev pub execute_update : World → Bool → Bool → Language → List GivenList → Text → List Binding → Op ℕ
execute_update world is_active flushes language lists text bindings = do
  statement ← judged_bulk world.model is_active language lists text bindings
  flush_if flushes world
  run_bulk world statement

-- ---- what code stands on

-- a set that is sound, stands in rising order, and has the shape of its classes
pub record IsInOrder (m : PersistenceUnit) (s : StoredSet) : Type 0 where
  pub sound : IsSound m s
  pub rising : T (is_sorted identity_cmp s)
  pub shaped : all_shaped m s ≡ true

-- such is the set that is seen after the flush, if there is one
abbrev pub StaysSound : Bool → World → Work → Type 0
StaysSound flushes world w = (v : Work) → flush_if flushes world w ≡ Done tt v → IsInOrder world.model v.view
