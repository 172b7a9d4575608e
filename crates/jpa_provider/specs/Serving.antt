-- The machine that live data stand for: managers, each with the layers of its open transaction over
-- the committed set, and one of them at work.
use Rattle.jpa_work.specs.context.Marks.{Marks, none_marked}
use Rattle.std.specs.Prelude.{◌≡◌, ◌≢◌, ◌<◌, ◌+◌, ◌⊎◌, ℕ, ℤ, Bool, true, false, List, [], ◌∷◌, length, map, Option}
use Rattle.std.specs.Prelude.{Some, None, Ok, Err, slice_index_or, slice_set, if◌then◌else◌}
use Rattle.std.specs.List.{filter}
use Rattle.jpa_value.specs.declared.refusal.Cause.{Cause}
use Rattle.jpa_value.specs.declared.refusal.Refusal.{Refusal}
use Rattle.jpa_behaviour.specs.Behaviour.{World, IsRegular}
use Rattle.jpa_stored.specs.objects.Sets.{StoredSet}
use Rattle.jpa_rows.specs.rows.Rows.{Rows}
use Rattle.jpa_rows.specs.declared.rows.source.RowSource.{Ghosts}
use Rattle.jpa_rows.specs.rows.Tables.{schema_of}
use Rattle.jpa_object_rows.specs.meaning.Sets.{rows_of}
use Rattle.jpa_open.specs.Opened.{Opened, no_layers, begun_over, seen_over}
use Rattle.jpa_protocol.specs.declared.call.Call.{Call}
use Rattle.jpa_protocol.specs.declared.call.FlushMode.{FlushMode}
use Rattle.jpa_protocol.specs.declared.event.Told.{Told}
use Rattle.jpa_protocol.specs.declared.reply.Answer.{Answer}
use Rattle.jpa_protocol.specs.declared.reply.Reply.{Reply}
use Rattle.jpa_work.specs.declared.context.Entry.{Entry}
use Rattle.jpa_work.specs.context.Work.{Work}
use Rattle.jpa_work.specs.declared.context.work.UnitOfWork.{UnitOfWork}
use Rattle.jpa_work.specs.context.Undo.{now, since, IsKept}
use Rattle.jpa_flush.specs.flush.Marked.{AreMarked, AreMarkedBefore, before}
use Rattle.jpa_flush.specs.marking.Shared.{seen_by}
use Rattle.jpa_model.specs.declared.unit.PersistenceUnit.{PersistenceUnit}
use Rattle.jpa_work.specs.declared.heap.Life.{Life}
use Rattle.jpa_work.specs.declared.heap.LiveObject.{LiveObject}
use Rattle.jpa_work.specs.heap.Objects.{place_of, object_at, with_life}
use Rattle.jpa_provider.specs.declared.session.Status.{Status}
use Rattle.jpa_provider.specs.declared.session.EntityManager.{EntityManager}
use Rattle.jpa_provider.specs.declared.session.Session.{Session}
use Rattle.jpa_machine.specs.machine.Machine.{Machine, Manager, Transaction, manager_at, is_begun, with_manager}
use Rattle.jpa_machine.specs.machine.Machine.{work_of}
use Rattle.jpa_machine.specs.machine.Machine.{is_gone, committed_after, rolled_back}
use Rattle.jpa_machine.specs.machine.Step.{Step, gives_up}
use Rattle.jpa_machine.specs.machine.Invariant.{IsMachine, context_of}
use Rattle.jpa_operations.specs.fetch.Orderly.{IsOrderly}
use Rattle.jpql_bulk.specs.kept.Fits.{AreInherited}
use Rattle.jpa_provider.specs.Provided.{rows_kept, StoresCall}

-- ---- managers

-- the transaction in this state, whose begin saw the one set, and which sees the other
abbrev pub transaction_in : Status → StoredSet → StoredSet → Option Transaction
transaction_in Status.Closed begun seen = None
transaction_in Status.Inactive begun seen = None
transaction_in Status.Active begun seen = Some (record { begun = begun; view = seen; is_marked = false })
transaction_in Status.RollbackOnly begun seen = Some (record { begun = begun; view = seen; is_marked = true })

-- whether a manager is open
abbrev pub is_open_status : Status → Bool
is_open_status Status.Closed = false
is_open_status Status.Inactive = true
is_open_status Status.Active = true
is_open_status Status.RollbackOnly = true

-- whether a transaction is open
abbrev pub is_begun_status : Status → Bool
is_begun_status Status.Closed = false
is_begun_status Status.Inactive = false
is_begun_status Status.Active = true
is_begun_status Status.RollbackOnly = true

-- a manager that isn't at work, over what is committed
abbrev pub manager_of : StoredSet → EntityManager → Manager
manager_of set x =
    record {
      is_open = is_open_status x.status;
      mode = x.mode;
      context = x.context.now;
      transaction = transaction_in x.status (begun_over x.layers set) (seen_over x.layers set);
    }

-- what stands where a number names no manager
abbrev pub nobody : EntityManager
nobody =
    record {
      status = Status.Closed;
      mode = FlushMode.Auto;
      context = record { now = []; since = []; marks = none_marked };
      layers = no_layers;
    }

-- the manager at a place
abbrev pub manager_in : List EntityManager → ℕ → EntityManager
manager_in managers m = slice_index_or managers m nobody

-- the manager that a number names, if it is open
abbrev pub if_named : List EntityManager → Option ℕ → Option ℕ
if_named managers None = None
if_named managers (Some m) = if is_open_status (manager_in managers m).status then Some m else None

-- the open manager that a number names, if there is one
abbrev pub named : Session → ℤ → Option ℕ
named s em = if_named s.managers.items (place_of (length s.managers.items) em)

-- the places of those that are open, where the first one stands at place n; they rise
abbrev pub open_places : ℕ → List EntityManager → List ℕ
open_places n [] = []
open_places n (x ∷ xs) = if is_open_status x.status then n ∷ open_places (n + 1) xs else open_places (n + 1) xs

-- the managers that aren't at work, over what is committed
abbrev pub managers_of : StoredSet → List EntityManager → List Manager
managers_of set managers = map (manager_of set) managers

-- ---- the machine

-- the machine that a session stands for
abbrev pub machine_of : Session → Machine
machine_of s =
    record {
      objects = s.work.objects.now;
      managers = managers_of (s.work.view).committed s.managers.items;
      numbers = s.work.numbers.now;
      stored_numbers = s.stored;
      committed = (s.work.view).committed;
    }

-- the open managers are told by their places
pub record IsCounted (s : Session) : Type 0 where
  pub opened : s.open_places.items ≡ open_places 0 s.managers.items

-- without a transaction all sets are what is committed
pub record IsResting (v : Opened) : Type 0 where
  pub begun : v.begun ≡ v.committed
  pub kept : v.kept ≡ v.committed

-- a manager without a transaction has no layers
abbrev pub IsIdle : List EntityManager → ℕ → Type 0
IsIdle managers k = is_begun_status (manager_in managers k).status ≡ false → (manager_in managers k).layers ≡ no_layers

-- nothing is left to be undone or told, and nobody's layers are at work
pub record IsSettled (s : Session) : Type 0 where
  pub kept : IsKept s.work
  pub quiet : s.work.events ≡ []
  pub resting : IsResting s.work.view
  pub idle : (k : ℕ) → IsIdle s.managers.items k
  pub counted : IsCounted s

-- the marks of a manager's context
abbrev pub marks_in : Session → ℕ → Marks
marks_in s k = ((manager_in s.managers.items k).context).marks

-- what the marks say of each manager's context
abbrev pub AreAllMarked : PersistenceUnit → Session → Type 0
AreAllMarked u s = (k : ℕ) → AreMarked u (work_of (machine_of s) k) (marks_in s k)

-- no manager is at work: nothing is left to be undone or told, and the marks say of each manager's
-- context what they are to say
pub record IsAtRest (u : PersistenceUnit) (s : Session) : Type 0 where
  pub settled : IsSettled s
  pub marked : AreAllMarked u s

-- what is at rest is so still: nothing is left to be undone or told, and the marks say what they are
-- to say
pub record StaysAtRest (s t : Session) : Type 0 where
  pub settled : IsSettled s → IsSettled t
  pub marked : (u : PersistenceUnit) → AreAllMarked u s → AreAllMarked u t

-- what holds between calls
pub record IsServing (world : World) (s : Session) : Type 0 where
  pub orderly : IsOrderly world.model
  pub regular : IsRegular world
  pub inherited : AreInherited world.model
  pub machine : IsMachine world (machine_of s)
  pub settled : IsSettled s
  pub marked : AreAllMarked world.model s

-- and over its store of rows, which is of the unit's schema: if it is clean it holds the rows of what
-- is committed, and no others
pub record IsServingOver {R : Type 0} (world : World) (store : Ghosts R) (s : Session) (rows : R) : Type 0 where
  pub serving : IsServing world s
  pub schema : store.schema rows ≡ schema_of world.model
  pub holds : store.clean rows → store.holds rows (rows_kept world (machine_of s))

-- the reply to a call, and what stands afterwards, are those of a step of the machine
abbrev pub Serves : World → Session → Call → Reply → Session → Type 0
Serves world old call reply new = Step world (machine_of old) call reply (machine_of new)

-- the call leaves the second store of the first, as the machine goes on so
abbrev pub StoresServing : {R : Type 0} → World → Ghosts R → Session → Call → Reply → Session → R → R → Type 0
StoresServing world store old call reply new = StoresCall world store (machine_of old) call reply (machine_of new)

-- ---- a manager at work

-- in a call of the machine's manager m, whose context is away, and its layers where its transaction
-- is open: with it put back, the session's managers are the machine's
pub record IsAway (M : Machine) (m : ℕ) (s : Session) : Type 0 where
  pub within : m < length s.managers.items
  pub committed : (s.work.view).committed ≡ M.committed
  pub stored : s.stored ≡ M.stored_numbers
  pub status : transaction_in (manager_in s.managers.items m).status (s.work.view).begun (s.work.view).kept
      ≡ (manager_at M m).transaction
  pub apart : is_begun_status (manager_in s.managers.items m).status ≡ false →
      IsResting s.work.view × ((manager_in s.managers.items m).layers ≡ no_layers)
  pub home : begun_over (manager_in s.managers.items m).layers (s.work.view).committed ≡ (s.work.view).committed
  pub home_too : seen_over (manager_in s.managers.items m).layers (s.work.view).committed ≡ (s.work.view).committed
  pub managers : (x : EntityManager) → managers_of M.committed (slice_set s.managers.items m x)
      ≡ with_manager M m (manager_of M.committed x)
  pub is_open : is_open_status (manager_in s.managers.items m).status ≡ (manager_at M m).is_open
  pub mode : (manager_in s.managers.items m).mode ≡ (manager_at M m).mode
  pub idle : (k : ℕ) → k ≢ m → IsIdle s.managers.items k
  pub counted : IsCounted s

-- and what undoing gives is the machine's
pub record IsWorking (M : Machine) (m : ℕ) (s : Session) : Type 0 where
  pub away : IsAway M m s
  pub objects : (since s.work).objects ≡ M.objects
  pub context : (since s.work).context ≡ context_of M m
  pub numbers : (since s.work).numbers ≡ M.numbers

-- its marks say what undoing gives, and those of the others what it gives for them
pub record AreMarkedAway (u : PersistenceUnit) (M : Machine) (m : ℕ) (s : Session) : Type 0 where
  pub manager : s.work.manager ≡ m
  pub own : AreMarkedBefore u s.work
  pub others : (k : ℕ) → k ≢ m → AreMarked u (seen_by k (context_of M k) (before s.work)) (marks_in s k)

-- what an operation leaves of marks, where it isn't refused
pub record KeepsMarks (u : PersistenceUnit) (old new : UnitOfWork) : Type 0 where
  pub manager : new.manager ≡ old.manager
  pub own : AreMarkedBefore u old → AreMarkedBefore u new
  pub others : (k : ℕ) (es : List Entry) (marks : Marks) → k ≢ old.manager →
      AreMarked u (seen_by k es (before old)) marks → AreMarked u (seen_by k es (before new)) marks

-- at the end of an accepted call the marks say what its work is then, and so do those of the others
pub record AreMarkedNow (u : PersistenceUnit) (M : Machine) (m : ℕ) (s : Session) : Type 0 where
  pub manager : s.work.manager ≡ m
  pub own : AreMarked u (now s.work) s.work.context.marks
  pub others : (k : ℕ) → k ≢ m → AreMarked u (seen_by k (context_of M k) (now s.work)) (marks_in s k)

-- the commit of its open transaction is under way
pub record IsCommitting (M : Machine) (m : ℕ) (s : Session) : Type 0 where
  pub working : IsWorking M m s
  pub begun : is_begun (manager_at M m).transaction ≡ true

-- the rows that stand then, and those of what the manager sees
abbrev pub rows_before : World → Session → Rows
rows_before world s = rows_of world (s.work.view).committed s.stored

-- the rows of what the manager at work sees
abbrev pub rows_seen : World → Session → Rows
rows_seen world s = rows_of world (s.work.view).seen s.work.numbers.now

-- the status of a manager whose transaction, if it is open, can only roll back
abbrev pub marked_status : Status → Status
marked_status Status.Closed = Status.Closed
marked_status Status.Inactive = Status.Inactive
marked_status Status.Active = Status.RollbackOnly
marked_status Status.RollbackOnly = Status.RollbackOnly

-- the objects of the entries that leave with a commit
abbrev pub gone_objects : Work → List ℕ
gone_objects w = map (λ (e : Entry). e.object) (filter (is_gone w) w.context)

-- the object at a place is detached, and all at these
abbrev pub detached_at : ℕ → List LiveObject → List LiveObject
detached_at n objects = slice_set objects n (with_life (object_at objects n) Life.Detached)

-- the objects at these places are detached
abbrev pub detached_all : List ℕ → List LiveObject → List LiveObject
detached_all [] objects = objects
detached_all (n ∷ ns) objects = detached_all ns (detached_at n objects)

-- ---- rolling back

-- whether a cause is want of memory or a fault of the store
abbrev pub gave_up : Cause → Bool
gave_up Cause.OutOfMemory = true
gave_up Cause.StoreFault = true
gave_up _ = false

-- a commit whose flush was refused: nothing was done where code gave up, else the transaction
-- rolled back
abbrev pub Refuses : Machine → ℕ → List Told → Cause → Reply → Machine → Type 0
Refuses M m events r reply N =
    ((gave_up r ≡ true) × (reply ≡ gives_up r) × (N ≡ M))
    ⊎ ((gave_up r ≡ false) × (reply ≡ record { events = events; answer = Err (Refusal.Rollback r) })
    × (N ≡ rolled_back M m))

-- a commit whose flush was done: stored, or nothing was done where the store refused
abbrev pub Stores : Machine → ℕ → Work → Reply → Machine → Type 0
Stores M m w reply N =
    ((reply ≡ record { events = w.events; answer = Ok Answer.Null }) × (N ≡ committed_after M m w))
    ⊎ (((reply ≡ gives_up Cause.OutOfMemory) ⊎ (reply ≡ gives_up Cause.StoreFault)) × (N ≡ M))
