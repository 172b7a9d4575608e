-- persist, remove, refresh and detach, and what detaches objects (Jakarta Persistence 3.1, chapters
-- 3.2.2 persist, 3.2.3 remove, 3.2.5 refresh, 3.2.6 detach, 3.2.7 detached entities, 3.4.4 lock
-- modes, 2.4 generated keys).
use Rattle.std.specs.Prelude.{ℕ, suc, pos, is_some, Bool, true, false, not, nat_lt, ◌==◌, List, [], ◌∷◌, slice_index_or}
use Rattle.std.specs.Prelude.{slice_set, Option, Some, None}
use Rattle.std.specs.List.{list_all}
use Rattle.jpa_value.specs.declared.value.Value.{Value}
use Rattle.jpa_value.specs.declared.value.Identity.{Identity}
use Rattle.jpa_value.specs.declared.refusal.Cause.{Cause}
use Rattle.jpa_value.specs.declared.refusal.Argument.{Argument}
use Rattle.jpa_value.specs.declared.refusal.PersistenceFault.{PersistenceFault}
use Rattle.jpa_value.specs.Value.{is_null}
use Rattle.jpa_model.specs.declared.unit.PersistenceUnit.{PersistenceUnit}
use Rattle.jpa_value.specs.declared.event.LifecycleEvent.{LifecycleEvent}
use Rattle.jpa_behaviour.specs.Behaviour.{World}
use Rattle.jpa_stored.specs.declared.objects.stored.Stored.{Stored}
use Rattle.jpa_work.specs.declared.heap.Life.{Life}
use Rattle.jpa_work.specs.declared.heap.LiveObject.{LiveObject}
use Rattle.jpa_work.specs.declared.context.Base.{Base}
use Rattle.jpa_work.specs.declared.context.Entry.{Entry}
use Rattle.jpa_work.specs.declared.context.Lock.{Lock}
use Rattle.jpa_work.specs.context.Steps.{◌>>=◌, ◌>>◌, Done, Op, done, refuse, require, read, change, each}
use Rattle.jpa_model.specs.Chains.{root_of, root_class, is_versioned}
use Rattle.jpa_work.specs.heap.Objects.{is_whole, with_life, object_at}
use Rattle.jpa_work.specs.context.Work.{Work, object, state_of, is_managed, entry_of, left, with_lock, instance, row}
use Rattle.jpa_work.specs.context.Work.{row_at}
use Rattle.jpa_work.specs.context.Work.{identity_at, entered, with_life_of, with_object, with_base, base_of}
use Rattle.jpa_work.specs.declared.context.EntityState.{EntityState}
use Rattle.jpa_lifecycle.specs.Callbacks.{callback}
use Rattle.jpa_cascade.specs.declared.Operation.{Operation}
use Rattle.jpa_cascade.specs.declared.Node.{Node}
use Rattle.jpa_cascade.specs.Waves.{waves}
use Rattle.jpa_operations.specs.fetch.Load.{load, object_loaded, base_loaded}

-- each node of the cascade from the object, in order; the nodes are those of the work as the
-- operation begins
abbrev pub cascaded : World → Operation → (Node → Op (Unit {0})) → ℕ → Op (Unit {0})
cascaded world op visit n w = each visit (waves world.model op w n) w

-- ---- keys

-- the greatest next number; it is never given
abbrev pub last_number : ℕ
last_number = 9223372036854775807

-- the key that a generated number is
abbrev pub number_part : ℕ → List Value
number_part k = Value.Int (pos k) ∷ []

-- a work in which an object has this key
abbrev pub with_key : ℕ → List Value → Work → Work
with_key n key w = with_object n (record (object w n) { key = key }) w

-- a work in which this is the next number of a hierarchy
abbrev pub with_number : ℕ → ℕ → Work → Work
with_number root k w = record w { numbers = slice_set w.numbers root k }

-- a generated key is null until it is given; any other is whole
abbrev pub give_key : World → ℕ → Bool → Op (Unit {0})
give_key world n false = do
  whole ← read (λ w. is_whole (object w n).key)
  require whole (Cause.Persistence PersistenceFault.Key)
give_key world n true = do
  unset ← read (λ w. list_all is_null (object w n).key)
  require unset (Cause.Persistence PersistenceFault.Key)
  root ← read (λ w. root_class world.model (object w n).class)
  k ← read (λ w. slice_index_or w.numbers root 1)
  require (nat_lt k last_number) (Cause.Persistence PersistenceFault.Generator)
  change (λ w. with_number root (suc k) (with_key n (number_part k) w))

-- whether the context has an instance of an identity
abbrev pub has_instance : PersistenceUnit → Work → Option Identity → Bool
has_instance m w None = false
has_instance m w (Some id) = is_some (instance m w id)

-- a new object becomes managed: its key is whole or given, and no other object of the context has
-- its identity
abbrev pub become_managed : World → ℕ → Op (Unit {0})
become_managed world n = do
  generated ← read (λ w. (root_of world.model (object w n).class).generated)
  give_key world n generated
  taken ← read (λ w. has_instance world.model w (identity_at world.model w n))
  require (not taken) Cause.EntityExists
  change (λ w. entered n (with_life_of n (Life.Managed w.manager) w))

-- ---- persist

-- PrePersist runs on an object that has no base
abbrev pub pre_persist_if : World → ℕ → Option Base → Op (Unit {0})
pre_persist_if world n None = callback world LifecycleEvent.PrePersist n
pre_persist_if world n (Some b) = done

-- persist by the object's state: new and removed ones become managed, detached ones are refused
-- (chapter 3.2.2)
abbrev pub persist_one : World → ℕ → EntityState → Op (Unit {0})
persist_one world n EntityState.New = do
  become_managed world n
  callback world LifecycleEvent.PrePersist n
persist_one world n EntityState.Managed = done
persist_one world n EntityState.Removed = do
  change (λ w. with_life_of n (Life.Managed w.manager) w)
  b ← read (λ w. base_of w n)
  pre_persist_if world n b
persist_one world n EntityState.Detached = refuse Cause.EntityExists

-- persist of a node of its cascade
abbrev pub persist_node : World → Node → Op (Unit {0})
persist_node world (Node.Live n) w = persist_one world n (state_of w n) w
persist_node world (Node.Bare id) w = Done tt w

-- persist of an object and of all that its cascade reaches (chapter 3.2.2)
abbrev pub persist : World → ℕ → Op (Unit {0})
persist world n = cascaded world Operation.Persist (persist_node world) n

-- ---- remove

-- remove by the object's state: a managed one is removed, a detached one is refused (chapter 3.2.3)
abbrev pub remove_one : World → ℕ → EntityState → Op (Unit {0})
remove_one world n EntityState.New = done
remove_one world n EntityState.Managed = do
  change (λ w. with_life_of n (Life.Removed w.manager) w)
  callback world LifecycleEvent.PreRemove n
remove_one world n EntityState.Removed = done
remove_one world n EntityState.Detached = refuse (Cause.IllegalArgument Argument.State)

-- remove of an object, by its state
abbrev pub remove_live : World → ℕ → Op (Unit {0})
remove_live world n w = remove_one world n (state_of w n) w

-- an identity means its instance by then; without one its row is loaded, then removed
abbrev pub remove_under : World → Identity → Option ℕ → Option Stored → Op (Unit {0})
remove_under world id (Some n) x = remove_live world n
remove_under world id None None = done
remove_under world id None (Some x) = do
  n ← load world id x
  remove_live world n

-- remove of a node of its cascade
abbrev pub remove_node : World → Node → Op (Unit {0})
remove_node world (Node.Live n) w = remove_live world n w
remove_node world (Node.Bare id) w = remove_under world id (instance world.model w id) (row w id) w

-- remove of an object and of all that its cascade reaches (chapter 3.2.3)
abbrev pub remove : World → ℕ → Op (Unit {0})
remove world n = cascaded world Operation.Remove (remove_node world) n

-- ---- refresh

-- the object as its row has it now, which is its new base; the entry keeps its place and its lock
abbrev pub reloaded : World → ℕ → Identity → Stored → Work → Work
reloaded world n id x w = with_base n (Some (base_loaded world.model w.view id x))
    (with_object n (object_loaded world.model w.manager w.view id x) w)

-- a row must be there, and of the object's class
abbrev pub refresh_row : World → ℕ → Option Identity → Option Stored → Op (Unit {0})
refresh_row world n None x = refuse Cause.EntityNotFound
refresh_row world n (Some id) None = refuse Cause.EntityNotFound
refresh_row world n (Some id) (Some x) = do
  same ← read (λ w. (object w n).class == x.class)
  require same Cause.EntityNotFound
  change (reloaded world n id x)
  callback world LifecycleEvent.PostLoad n

-- a managed object is read again from its row
abbrev pub refresh_managed : World → ℕ → Op (Unit {0})
refresh_managed world n w = refresh_row world n (identity_at world.model w n) (row_at w (identity_at world.model w n)) w

-- refresh by the object's state: all but a managed one are refused (chapter 3.2.5)
abbrev pub refresh_one : World → ℕ → EntityState → Op (Unit {0})
refresh_one world n EntityState.New = refuse (Cause.IllegalArgument Argument.State)
refresh_one world n EntityState.Managed = refresh_managed world n
refresh_one world n EntityState.Removed = refuse (Cause.IllegalArgument Argument.State)
refresh_one world n EntityState.Detached = refuse (Cause.IllegalArgument Argument.State)

-- refresh of a node of its cascade
abbrev pub refresh_node : World → Node → Op (Unit {0})
refresh_node world (Node.Live n) w = refresh_one world n (state_of w n) w
refresh_node world (Node.Bare id) w = Done tt w

-- refresh of an object and of all that its cascade reaches (chapter 3.2.5)
abbrev pub refresh : World → ℕ → Op (Unit {0})
refresh world n = cascaded world Operation.Refresh (refresh_node world) n

-- ---- detach

-- the object is detached, with its state as it is, and its entry leaves
abbrev pub let_go : ℕ → Work → Work
let_go n w = left n (with_life_of n Life.Detached w)

-- detach by the object's state: managed and removed ones are let go (chapter 3.2.6)
abbrev pub detach_one : ℕ → EntityState → Op (Unit {0})
detach_one n EntityState.New = done
detach_one n EntityState.Managed = change (let_go n)
detach_one n EntityState.Removed = change (let_go n)
detach_one n EntityState.Detached = done

-- detach of a node of its cascade
abbrev pub detach_node : Node → Op (Unit {0})
detach_node (Node.Live n) w = detach_one n (state_of w n) w
detach_node (Node.Bare id) w = Done tt w

-- detach of an object and of all that its cascade reaches (chapter 3.2.6)
abbrev pub detach : World → ℕ → Op (Unit {0})
detach world n = cascaded world Operation.Detach detach_node n

-- the objects of the entries are detached, with their state as it is
abbrev pub detach_each : List Entry → List LiveObject → List LiveObject
detach_each [] objects = objects
detach_each (e ∷ es) objects =
    detach_each es (slice_set objects e.object (with_life (object_at objects e.object) Life.Detached))

-- ---- lock

-- a lock that raises the version stays where one is asked that does not
abbrev pub locked : Lock → Lock → Lock
locked Lock.Write Lock.Read = Lock.Write
locked Lock.Write Lock.Write = Lock.Write
locked Lock.Write Lock.Unlocked = Lock.Unlocked
locked Lock.Read mode = mode
locked Lock.Unlocked mode = mode

-- the lock of an entry; without one there is none
abbrev pub lock_in : Option Entry → Lock
lock_in None = Lock.Unlocked
lock_in (Some e) = e.lock

-- a managed object of an entity with a version
abbrev pub lock : World → ℕ → Lock → Op (Unit {0})
lock world n mode = do
  managed ← read (λ w. is_managed (state_of w n))
  require managed (Cause.IllegalArgument Argument.State)
  versioned ← read (λ w. is_versioned world.model (object w n).class)
  require versioned (Cause.Persistence PersistenceFault.Version)
  change (λ w. with_lock n (locked (lock_in (entry_of w n)) mode) w)
