-- What an operation of one manager works on, and what it reads of it: the persistence context and
-- the states of its objects (Jakarta Persistence 3.1, chapters 3.2 and 3.3).
use Rattle.std.specs.Prelude.{ℕ, Bool, true, false, not, ◌==◌, List, [], ◌∷◌, ◌++◌, map, slice_set, Option, Some, None}
use Rattle.std.specs.Prelude.{if◌then◌else◌}
use Rattle.std.specs.List.{filter, find}
use Rattle.jpa_value.specs.declared.value.Identity.{Identity}
use Rattle.jpa_value.specs.Value.{same_identity}
use Rattle.jpa_model.specs.declared.unit.PersistenceUnit.{PersistenceUnit}
use Rattle.jpa_stored.specs.declared.objects.stored.Stored.{Stored}
use Rattle.jpa_stored.specs.objects.Sets.{StoredSet, stored_at}
use Rattle.jpa_work.specs.declared.heap.Life.{Life}
use Rattle.jpa_work.specs.declared.heap.LiveObject.{LiveObject}
use Rattle.jpa_work.specs.heap.Objects.{object_at, identity_of, with_life}
use Rattle.jpa_work.specs.declared.context.Lock.{Lock}
use Rattle.jpa_work.specs.declared.context.Base.{Base}
use Rattle.jpa_work.specs.declared.context.Entry.{Entry}
use Rattle.jpa_work.specs.declared.context.EntityState.{EntityState}
use Rattle.jpa_protocol.specs.declared.event.Told.{Told}

-- one manager at work: the live objects, its context, the next number of each class that is a root,
-- the set that it sees, and what was told so far
pub record Work : Type 0 where
  pub manager : ℕ
  pub objects : List LiveObject
  pub context : List Entry
  pub numbers : List ℕ
  pub view : StoredSet
  pub events : List Told

-- a state of an object as this manager sees it: one that another manager holds counts as detached
abbrev pub state_from : ℕ → Life → EntityState
state_from manager Life.New = EntityState.New
state_from manager (Life.Managed k) = if k == manager then EntityState.Managed else EntityState.Detached
state_from manager (Life.Removed k) = if k == manager then EntityState.Removed else EntityState.Detached
state_from manager Life.Detached = EntityState.Detached

-- whether a state is managed
abbrev pub is_managed : EntityState → Bool
is_managed EntityState.Managed = true
is_managed EntityState.New = false
is_managed EntityState.Removed = false
is_managed EntityState.Detached = false

-- whether a state is removed
abbrev pub is_removed : EntityState → Bool
is_removed EntityState.Removed = true
is_removed EntityState.New = false
is_removed EntityState.Managed = false
is_removed EntityState.Detached = false

-- the object at a place
abbrev pub object : Work → ℕ → LiveObject
object w n = object_at w.objects n

-- the state of an object for the manager at work
abbrev pub state_of : Work → ℕ → EntityState
state_of w n = state_from w.manager (object w n).life

-- whether there is an identity, and it is the same as this one
abbrev pub has_identity : Option Identity → Identity → Bool
has_identity None id = false
has_identity (Some own) id = same_identity own id

-- the identity of an object whose key is whole
abbrev pub identity_at : PersistenceUnit → Work → ℕ → Option Identity
identity_at m w n = identity_of m (object w n)

-- the entry of an object
abbrev pub entry_of : Work → ℕ → Option Entry
entry_of w n = find (λ e. e.object == n) w.context

-- the object of an entry, where there is one
abbrev pub object_in : Option Entry → Option ℕ
object_in None = None
object_in (Some e) = Some e.object

-- the object of the context with this identity
abbrev pub instance : PersistenceUnit → Work → Identity → Option ℕ
instance m w id = object_in (find (λ e. has_identity (identity_at m w e.object) id) w.context)

-- what the view has under an identity, if anything
abbrev pub row : Work → Identity → Option Stored
row w id = stored_at w.view id

-- what the view has under an identity, where there is one
abbrev pub row_at : Work → Option Identity → Option Stored
row_at w None = None
row_at w (Some id) = row w id

-- ---- what changes

-- a work with this object at a place
abbrev pub with_object : ℕ → LiveObject → Work → Work
with_object n x w = record w { objects = slice_set w.objects n x }

-- a work with an object in this state
abbrev pub with_life_of : ℕ → Life → Work → Work
with_life_of n life w = with_object n (with_life (object w n) life) w

-- the object enters the context as its last entry, under its key, without a lock and a base
abbrev pub entered : ℕ → Work → Work
entered n w = record w
    { context = w.context ++ record { object = n; key = (object w n).key; lock = Lock.Unlocked; base = None } ∷ [] }

-- a work with the entry of an object changed
abbrev pub with_entry : ℕ → (Entry → Entry) → Work → Work
with_entry n f w = record w { context = map (λ e. if e.object == n then f e else e) w.context }

-- a work with this base in the entry of an object
abbrev pub with_base : ℕ → Option Base → Work → Work
with_base n b w = with_entry n (λ e. record e { base = b }) w

-- the entry without a lock
abbrev pub unlocked : Entry → Entry
unlocked e = record e { lock = Lock.Unlocked }

-- another lock of the object
abbrev pub with_lock : ℕ → Lock → Work → Work
with_lock n l w = with_entry n (λ e. record e { lock = l }) w

-- the object leaves the context
abbrev pub left : ℕ → Work → Work
left n w = record w { context = filter (λ e. not (e.object == n)) w.context }

-- a work with one more event told
abbrev pub told : Told → Work → Work
told e w = record w { events = w.events ++ e ∷ [] }

-- ---- the base of an object

-- the base of an entry, where there are both
abbrev pub base_in : Option Entry → Option Base
base_in None = None
base_in (Some e) = e.base

-- the base of an object, if it has one
abbrev pub base_of : Work → ℕ → Option Base
base_of w n = base_in (entry_of w n)
