-- begin, commit and rollback (Jakarta Persistence 3.1, chapters 7.5 transactions, 3.4 optimistic
-- locking).
use Rattle.std.specs.Prelude.{ℕ, Bool, true, false, ◌&&◌, List, [], Option, Some, None, if◌then◌else◌}
use Rattle.std.specs.List.{flat_map}
use Rattle.jpa_value.specs.declared.value.Identity.{Identity}
use Rattle.jpa_model.specs.declared.unit.PersistenceUnit.{PersistenceUnit}
use Rattle.jpa_stored.specs.objects.Sets.{StoredSet, fault_of}
use Rattle.jpa_open.specs.Differences.{all_agree, differing, merged}
use Rattle.jpa_work.specs.declared.context.Entry.{Entry}
use Rattle.jpa_work.specs.context.Work.{Work, state_of, is_managed, identity_at}
use Rattle.jpa_updates.specs.Updates.{with_view}
use Rattle.jpa_value.specs.declared.refusal.Cause.{Cause}
use Rattle.jpa_value.specs.declared.refusal.Refusal.{Refusal}
use Rattle.jpa_value.specs.declared.refusal.State.{State}
use Rattle.jpa_behaviour.specs.Behaviour.{World}
use Rattle.jpa_work.specs.context.Steps.{◌>>=◌, ◌>>◌, Outcome, Done, Refused, Op, require, read, change}
use Rattle.jpa_flush.specs.flush.Flush.{flush, reads_hold, is_read_lock, listed, sound_or}
use Rattle.jpa_protocol.specs.declared.reply.Answer.{Answer}
use Rattle.jpa_protocol.specs.declared.reply.Reply.{Reply}
use Rattle.jpa_machine.specs.machine.Machine.{Machine, Transaction, manager_at, with_manager, begun_set, work_of}
use Rattle.jpa_machine.specs.machine.Machine.{marked}
use Rattle.jpa_machine.specs.machine.Machine.{rolled_back, committed_after}
use Rattle.jpa_machine.specs.machine.Calls.{accepted, refused, because}

-- ---- begin

-- the transaction sees what is committed now
abbrev pub begun : Machine → ℕ → Machine
begun M m = record M {
  managers = with_manager M m
      (record (manager_at M m)
      { transaction = Some (record { begun = M.committed; view = M.committed; is_marked = false }) });
}

-- the call begin, by the manager's transaction: an open one refuses it (chapter 7.5)
abbrev pub begin_in : Machine → ℕ → Option Transaction → Reply × Machine
begin_in M m (Some t) = because M (Cause.IllegalState State.Active)
begin_in M m None = accepted [] Answer.Null (begun M m)

-- each manager has one open transaction at most
abbrev pub begin : Machine → ℕ → Reply × Machine
begin M m = begin_in M m (manager_at M m).transaction

-- ---- commit

-- the identity of an entry's object, where it is managed and locked READ
abbrev pub read_along : PersistenceUnit → Work → Entry → List Identity
read_along m w e = if is_read_lock e.lock && is_managed (state_of w e.object) then listed (identity_at m w e.object)
    else []

-- the identities of the managed objects that are locked READ
abbrev pub locked_ids : PersistenceUnit → Work → List Identity
locked_ids m w = flat_map (read_along m w) w.context

-- what the transaction changed, and what it holds locked READ, is committed as it was at its begin:
-- the first committer wins
abbrev pub is_current : PersistenceUnit → StoredSet → StoredSet → Work → Bool
is_current m committed begun w =
    all_agree committed begun (differing begun w.view) && all_agree committed begun (locked_ids m w)

-- the flush; what is committed and what is locked is to be current; then what others committed
-- since the begin is seen too, but for what the transaction changed, and that set is to be sound
abbrev pub commit_work : World → StoredSet → StoredSet → Op (Unit {0})
commit_work world committed begun = do
  flush world
  current ← read (is_current world.model committed begun)
  require current Cause.OptimisticLock
  hold ← read (reads_hold world.model)
  require hold Cause.OptimisticLock
  set ← read (λ w. merged committed begun w.view)
  sound_or (fault_of world.model set)
  change (with_view set)

-- a refusal on the way rolls back what was before the call
abbrev pub commit_of : Machine → ℕ → Outcome (Unit {0}) → Reply × Machine
commit_of M m (Done u w) = accepted w.events Answer.Null (committed_after M m w)
commit_of M m (Refused r events) = refused events (Refusal.Rollback r) (rolled_back M m)

-- a commit by the mark: a marked transaction rolls back (chapter 7.5)
abbrev pub commit_if : World → Machine → ℕ → Bool → Reply × Machine
commit_if world M m true = refused [] Refusal.RollbackMarked (rolled_back M m)
commit_if world M m false = commit_of M m (commit_work world M.committed (begun_set M m) (work_of M m))

-- the call commit, by the manager's transaction: without an open one it is refused (chapter 7.5)
abbrev pub commit_in : World → Machine → ℕ → Option Transaction → Reply × Machine
commit_in world M m None = because M (Cause.IllegalState State.Inactive)
commit_in world M m (Some t) = commit_if world M m t.is_marked

-- the committed set takes what the transaction changed, or the transaction rolls back
abbrev pub commit : World → Machine → ℕ → Reply × Machine
commit world M m = commit_in world M m (manager_at M m).transaction

-- ---- rollback

-- the call rollback, by the manager's transaction: without an open one it is refused (chapter 7.5)
abbrev pub rollback_in : Machine → ℕ → Option Transaction → Reply × Machine
rollback_in M m None = because M (Cause.IllegalState State.Inactive)
rollback_in M m (Some t) = accepted [] Answer.Null (rolled_back M m)

-- the call rollback: the manager's objects are detached, and nothing is written (chapters 3.3.3 and
-- 7.5)
abbrev pub rollback : Machine → ℕ → Reply × Machine
rollback M m = rollback_in M m (manager_at M m).transaction

-- the call setRollbackOnly, by the manager's transaction: without one it is refused (chapter 7.5)
abbrev pub only_rollback_in : Machine → ℕ → Option Transaction → Reply × Machine
only_rollback_in M m None = because M (Cause.IllegalState State.Inactive)
only_rollback_in M m (Some t) = accepted [] Answer.Null (marked M m)

-- from now on the transaction can only roll back
abbrev pub set_rollback_only : Machine → ℕ → Reply × Machine
set_rollback_only M m = only_rollback_in M m (manager_at M m).transaction
