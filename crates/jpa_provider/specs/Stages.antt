-- The stages of a manager's work, up to the end of its commit: what each stands on, and what it
-- leaves (Jakarta Persistence 3.1, chapters 3.1.1, 3.2.4 and 7.5).
use Rattle.std.specs.Prelude.{◌≡◌, ◌<◌, ℕ, [], All, List, nat_le, true, length, slice_set}
use Rattle.jpa_value.specs.declared.value.Identity.{Identity}
use Rattle.jpa_model.specs.declared.unit.PersistenceUnit.{PersistenceUnit}
use Rattle.jpa_behaviour.specs.Behaviour.{World}
use Rattle.jpa_stored.specs.objects.Sets.{IsSound, each_fits, is_rising}
use Rattle.jpa_open.specs.Differences.{differing}
use Rattle.jpa_open.specs.Opened.{AreAllChanged}
use Rattle.jpa_rows.specs.declared.rows.source.RowSource.{Ghosts}
use Rattle.jpa_rows.specs.rows.Cells.{CanBeHeld}
use Rattle.jpa_rows.specs.rows.Tables.{schema_of}
use Rattle.jpa_protocol.specs.declared.reply.Answer.{Answer}
use Rattle.jpa_protocol.specs.declared.reply.Reply.{Reply}
use Rattle.jpa_work.specs.declared.context.Entry.{Entry}
use Rattle.jpa_work.specs.declared.context.work.UnitOfWork.{UnitOfWork}
use Rattle.jpa_work.specs.context.Marks.{none_marked}
use Rattle.jpa_work.specs.context.Steps.{Op}
use Rattle.jpa_work.specs.context.Undo.{now, since, IsKept}
use Rattle.jpa_cascade.specs.There.{HoldsWithin}
use Rattle.jpa_work.specs.declared.heap.LiveObject.{LiveObject}
use Rattle.jpa_operations.specs.fetch.Grown.{IsReady}
use Rattle.jpa_operations.specs.fetch.Orderly.{IsOrderly}
use Rattle.jpa_flush.specs.declared.flush.chosen.Looked.{Looked}
use Rattle.jpa_flush.specs.flush.Marked.{AreLooked, IsMarked, IsUntouched}
use Rattle.jpa_operations.specs.ops.Names.{has_distinct_entries}
use Rattle.jpa_queries.specs.Premises.{StaysReady}
use Rattle.jpa_machine.specs.machine.Machine.{Machine, cleared, work_of}
use Rattle.jpa_provider.specs.declared.commit_work.Found.{Found}
use Rattle.jpa_provider.specs.declared.replies.Rule.{Rule}
use Rattle.jpa_provider.specs.declared.session.Session.{Session}
use Rattle.jpa_provider.specs.Operations.{EndsSo}
use Rattle.jpa_provider.specs.Beside.{IsBeside, Rises}
use Rattle.jpa_provider.specs.Provided.{rows_kept}
use Rattle.jpa_provider.specs.Serving.{machine_of, manager_in, gone_objects, AreAllMarked, AreMarkedAway, IsCounted}
use Rattle.jpa_provider.specs.Serving.{IsSettled, Stores}

-- ---- an operation

-- an operation on the object at a place can begin: operations may go on, the heap has the object, and
-- nothing was done before that could be undone
pub record CanOperate (u : PersistenceUnit) (work : UnitOfWork) (n : ℕ) : Type 0 where
  pub orderly : IsOrderly u
  pub ready : IsReady u (now work)
  pub object : n < length work.objects.now
  pub kept : IsKept work

-- the manager does an operation, and what it changed is kept, or undone where it was refused
abbrev pub EndsWork : Rule → Op Answer → Session → ℕ → Reply → Session → Type 0
EndsWork rule op s m reply t = let M = machine_of s in EndsSo rule M m (op (work_of M m)) reply (machine_of t)

-- what the manager's work changed was undone: its objects and its context are what they were, and no
-- manager came or went
pub record IsUndoneTo (m : ℕ) (s t : Session) : Type 0 where
  pub count : length t.managers.items ≡ length s.managers.items
  pub objects : t.work.objects.now ≡ (since s.work).objects
  pub context : (manager_in t.managers.items m).context.now ≡ (since s.work).context

-- ---- before it stores

-- a manager's work can be flushed: operations may go on in it, the set that it sees is sound and in
-- the order of identities, each of which stands once in its context, and the marks say what they are to
-- say (chapter 3.2.4)
pub record CanFlush (u : PersistenceUnit) (work : UnitOfWork) : Type 0 where
  pub orderly : IsOrderly u
  pub ready : IsReady u (now work)
  pub sound : IsSound u (now work).view
  pub rising : Rises (now work).view
  pub distinct : has_distinct_entries u (now work) ≡ true
  pub marked : IsMarked u work

-- and it can be committed: operations may go on after the flush, too, and what is committed is sound
-- and in order (chapter 7.5)
pub record CanCommit (world : World) (work : UnitOfWork) : Type 0 where
  pub flush : CanFlush world.model work
  pub goes : StaysReady true world (now work)
  pub committed : IsSound world.model (work.view).committed
  pub committed_rising : Rises (work.view).committed

-- what others committed since the begin can join what it changed, which is under these identities
pub record CanMerge (u : PersistenceUnit) (work : UnitOfWork) (ids : List Identity) : Type 0 where
  pub changed : ids ≡ differing (work.view).begun (now work).view
  pub rising : Rises (now work).view
  pub committed : IsSound u (work.view).committed
  pub committed_rising : Rises (work.view).committed

-- a commit found all that it changes, each identity once and in order, and all entries that it
-- need look at
pub record IsFound (u : PersistenceUnit) (work : UnitOfWork) (found : Found) : Type 0 where
  pub elsewhere : AreAllChanged work.view found.ids
  pub once : is_rising found.ids ≡ true
  pub looked : AreLooked (IsUntouched u (now work) (found.looked).linked) work.context.now (found.looked).places

-- ---- while it stores

-- what the manager at work sees can be stored: it changes what is under these identities, a store can
-- hold it and what is committed, no next number falls, and at other places than these its entries are
-- untouched
pub record CanStore {R : Type 0} (world : World) (store : Ghosts R) (m : ℕ) (s : Session) (rows : R)
    (ids : List Identity) (looked : Looked) : Type 0 where
  pub within : m < length s.managers.items
  pub counted : IsCounted s
  pub schema : store.schema rows ≡ schema_of world.model
  pub elsewhere : AreAllChanged s.work.view ids
  pub once : is_rising ids ≡ true
  pub committed : CanBeHeld world (s.work.view).committed s.stored
  pub seen : CanBeHeld world (s.work.view).seen s.work.numbers.now
  pub rising : each_fits nat_le s.stored s.work.numbers.now ≡ true
  pub entries : All (λ (e : Entry). e.object < length s.work.objects.now) s.work.context.now
  pub ready : IsReady world.model (now s.work)
  pub untouched : AreLooked (IsUntouched world.model (now s.work) looked.linked) s.work.context.now looked.places

-- a commit stored the work, or left all as it was where the store refused: no manager is at work then,
-- and the store holds the rows of what is committed
pub record StoresWork {R : Type 0} (world : World) (store : Ghosts R) (M : Machine) (m : ℕ) (s : Session)
    (reply : Reply) (t : Session) (old new : R) : Type 0 where
  pub stores : Stores M m (now s.work) reply (machine_of t)
  pub settled : IsSettled t
  pub marked : AreMarkedAway world.model M m s → AreAllMarked world.model t
  pub holds : store.holds old (rows_kept world M) → store.holds new (rows_kept world (machine_of t))

-- a commit that was stored can end, and takes no memory: these are the next numbers and the removed
-- objects, there is room for what is committed, others see what they saw, and at other places than these
-- the entries are untouched
pub record CanEnd (u : PersistenceUnit) (m : ℕ) (s : Session) (next gone : List ℕ) (looked : Looked) : Type 0 where
  pub within : m < length s.managers.items
  pub numbers : next ≡ s.work.numbers.now
  pub removed : gone ≡ gone_objects (now s.work)
  pub entries : All (λ (e : Entry). e.object < length s.work.objects.now) s.work.context.now
  pub room : (s.work.view).is_ready ≡ true
  pub beside : IsBeside m s
  pub ready : IsReady u (now s.work)
  pub untouched : AreLooked (IsUntouched u (now s.work) looked.linked) s.work.context.now looked.places

-- ---- without a store

-- the session has the manager, and the entries of its context are of live objects
pub record HasManager (s : Session) (m : ℕ) : Type 0 where
  pub within : m < length s.managers.items
  pub entries : All (λ (e : Entry). e.object < length s.work.objects.now) (manager_in s.managers.items m).context.now

-- the manager's context was cleared, and nothing else changed but the states of its objects (chapter
-- 3.2.7)
pub record IsCleared (m : ℕ) (s t : Session) : Type 0 where
  pub machine : machine_of t ≡ cleared (machine_of s) m
  pub managers : t.managers.items ≡ slice_set s.managers.items m
      (record (manager_in s.managers.items m) { context = record { now = []; since = []; marks = none_marked } })
  pub view : t.work.view ≡ s.work.view
  pub places : t.open_places.items ≡ s.open_places.items

-- ---- what is shown of objects

-- an object of an entity, whose relations hold objects of a heap of so many alone
pub record CanBeShown (m : PersistenceUnit) (count : ℕ) (x : LiveObject) : Type 0 where
  pub class : x.class < length m.entities
  pub within : All (HoldsWithin count) x.relations
