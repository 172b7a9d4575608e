-- A provider, as its callers see it.
use Rattle.std.specs.Prelude.{◌≡◌, ◌⊎◌, ℕ, List, nat_le, true, false, IsErr, OnOk}
use Rattle.jpa_model.specs.declared.unit.PersistenceUnit.{PersistenceUnit}
use Rattle.jpa_behaviour.specs.Behaviour.{World}
use Rattle.jpa_behaviour.specs.Registered.{Meaning, Registered, world_of}
use Rattle.jpa_stored.specs.objects.Sets.{StoredSet, each_fits}
use Rattle.jpa_object_rows.specs.meaning.Sets.{rows_of}
use Rattle.jpa_rows.specs.rows.Rows.{Rows}
use Rattle.jpa_rows.specs.declared.rows.source.RowSource.{Ghosts}
use Rattle.jpa_rows.specs.rows.Commits.{RunsAtMost, RunsDifference}
use Rattle.jpa_protocol.specs.declared.call.Call.{Call}
use Rattle.jpa_protocol.specs.declared.reply.Reply.{Reply}
use Rattle.jpa_machine.specs.machine.Machine.{Machine, opened, IsStoredAs}
use Rattle.jpa_machine.specs.machine.Step.{Step, IsGivenUp, outcome}
use Rattle.jpa_machine.specs.machine.Isolated.{IsSomeMove}
use Rattle.jpa_machine.specs.machine.Left.{LivesAsBefore, HoldsSameValues}
use Rattle.jpa_machine.specs.machine.Routes.{is_commit, is_rollback}
use Rattle.jpa_machine.specs.machine.Faults.{faults_after_reply}

-- the unit that it serves with what is registered, the machine, and the store of rows
pub record Provided (R L C : Type 0) : Type 0 where
  pub model : PersistenceUnit
  pub registry : Registered L C
  pub machine : Machine
  pub rows : R

-- what the unit and its stored functions mean
abbrev pub world_in : {R L C : Type 0} → Meaning L C → Provided R L C → World
world_in meaning p = world_of meaning p.model p.registry

-- opened for this unit and what is registered, over this store of the rows of this set and these next
-- numbers: no object lives, and no manager was made
pub record IsOpened {R L C : Type 0} (unit : PersistenceUnit) (registered : Registered L C) (committed : StoredSet)
    (numbers : List ℕ) (store : R) (p : Provided R L C) : Type 0 where
  pub model : p.model ≡ unit
  pub registry : p.registry ≡ registered
  pub machine : p.machine ≡ opened committed numbers
  pub rows : p.rows ≡ store

-- a clean store holds the rows of the committed set, and of the next numbers that were stored with
-- it, and no others
abbrev pub Stands : {R L C : Type 0} → Meaning L C → (R → Type 0) → (R → Rows → Type 0) → Provided R L C → Type 0
Stands meaning clean holds p =
    clean p.rows → holds p.rows (rows_of (world_in meaning p) (p.machine).committed (p.machine).stored_numbers)

-- the rows of what is committed
abbrev pub rows_kept : World → Machine → Rows
rows_kept world M = rows_of world M.committed M.stored_numbers

-- the rows of what is committed once the call is served
abbrev pub rows_made : World → Machine → Call → Rows
rows_made world M call = rows_kept world (outcome world M call).1

-- a call leaves the second store of the first, as the machine goes from the first to the second. If it
-- is clean it was clean before, and holds the rows of what is committed then, and no others. A crash
-- leaves what it could leave before the call, or what the call commits. A call reads nothing of the
-- store and makes nothing for it to stand in, and a commit alone writes to it: where it is accepted
-- just what changes, and where it is refused nothing, or, where it gave up, at most that. A fault of
-- the store is told where it is one more
pub record StoresCall {R : Type 0} (world : World) (store : Ghosts R) (M : Machine) (call : Call) (reply : Reply)
    (N : Machine) (old new : R) : Type 0 where
  pub same : store.schema new ≡ store.schema old
  pub holds : store.clean new → store.holds new (rows_kept world N)
  pub was_clean : store.clean new → store.clean old
  pub crash : store.clean new → store.endures old new (λ left. left ≡ rows_made world M call)
  pub others : is_commit call ≡ false → new ≡ old
  pub counted : is_commit call ≡ true → OnOk reply.answer
      (RunsDifference (rows_kept world M) (rows_made world M call) (store.writes old) (store.writes new))
  pub bounded : is_commit call ≡ true → IsErr reply.answer → (new ≡ old)
      ⊎ RunsAtMost (rows_kept world M) (rows_made world M call) (store.writes old) (store.writes new)
  pub refused : IsErr reply.answer → IsGivenUp reply ⊎ (new ≡ old)
  pub told : store.faults new ≡ faults_after_reply reply (store.faults old)
  pub unread : store.reads new ≡ store.reads old
  pub unmade : store.creates new ≡ store.creates old

-- what a call changes of the machine at most. Only a commit that is accepted changes what is
-- committed. A refused call leaves all that lives as it was but for marks; a rollback, also that of a
-- refused commit, changes the states of live objects and never their values; no next number falls, so
-- that none is given again
pub record ChangesAtMost (M : Machine) (call : Call) (reply : Reply) (N : Machine) : Type 0 where
  pub still : (is_commit call ≡ false) ⊎ IsErr reply.answer → IsStoredAs M N
  pub left : is_commit call ≡ false → IsErr reply.answer → LivesAsBefore M N
  pub undone : (is_rollback call ≡ true) ⊎ ((is_commit call ≡ true) × IsErr reply.answer) → HoldsSameValues M N
  pub rising : each_fits nat_le M.numbers N.numbers ≡ true

-- from the first to the second the unit and what is registered stay, and the reply to the call is that
-- of a step of the machine, which changes no more than a call may, and is a move of which the law of
-- isolation speaks; what stands between calls stands then, and the store does what a call does to it
pub record Steps {R L C : Type 0} (meaning : Meaning L C) (store : Ghosts R) (old : Provided R L C) (call : Call)
    (reply : Reply) (new : Provided R L C) : Type 0 where
  pub model : new.model ≡ old.model
  pub registry : new.registry ≡ old.registry
  pub step : Step (world_in meaning old) old.machine call reply new.machine
  pub changes : ChangesAtMost old.machine call reply new.machine
  pub moves : IsSomeMove (world_in meaning old) old.machine call reply new.machine
  pub stands : Stands meaning store.clean store.holds new
  pub stores : StoresCall (world_in meaning old) store old.machine call reply new.machine old.rows new.rows
