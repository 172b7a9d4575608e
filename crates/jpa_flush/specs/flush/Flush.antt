-- The flush: persist along cascades, orphans, links to what is not stored, PreUpdate, the new set,
-- the new bases, the Post events (Jakarta Persistence 3.1, chapters 3.2.4 synchronization to the
-- database, 2.9 orphan removal, 3.4 versions).
use Rattle.std.specs.Prelude.{ℕ, zero, suc, ℤ, pos, ◌+ℤ◌, is_some, Bool, true, false, not, ◌&&◌, ◌||◌, List, [], ◌∷◌}
use Rattle.std.specs.Prelude.{map, length, slice_index_or, slice_get, Option, Some, None, if◌then◌else◌}
use Rattle.std.specs.List.{flat_map, filter, list_any, list_all, enumerate_from, zip}
use Rattle.jpa_value.specs.declared.value.Value.{Value}
use Rattle.jpa_value.specs.declared.value.Identity.{Identity}
use Rattle.jpa_value.specs.declared.refusal.Cause.{Cause}
use Rattle.jpa_value.specs.declared.refusal.State.{State}
use Rattle.jpa_value.specs.declared.refusal.PersistenceFault.{PersistenceFault}
use Rattle.jpa_value.specs.Value.{is_null, same_identity}
use Rattle.jpa_model.specs.declared.unit.PersistenceUnit.{PersistenceUnit}
use Rattle.jpa_model.specs.declared.unit.Relation.{Relation}
use Rattle.jpa_model.specs.declared.unit.Side.{Side}
use Rattle.jpa_value.specs.declared.event.LifecycleEvent.{LifecycleEvent}
use Rattle.jpa_behaviour.specs.Behaviour.{World}
use Rattle.jpa_stored.specs.declared.objects.stored.Stored.{Stored}
use Rattle.jpa_work.specs.declared.heap.Link.{Link}
use Rattle.jpa_work.specs.declared.heap.Collection.{Collection}
use Rattle.jpa_work.specs.declared.heap.Held.{Held}
use Rattle.jpa_work.specs.declared.heap.LiveObject.{LiveObject}
use Rattle.jpa_work.specs.declared.context.Lock.{Lock}
use Rattle.jpa_work.specs.declared.context.Base.{Base}
use Rattle.jpa_work.specs.declared.context.Entry.{Entry}
use Rattle.jpa_work.specs.context.Steps.{◌>>=◌, ◌>>◌, Done, Op, after, done, refuse, require, read, change, each}
use Rattle.std.specs.Ordering.{is_eq, int_cmp, is_lt}
use Rattle.std.specs.FinMap.Entries.{by_order}
use Rattle.jpa_value.specs.Value.{same_value, identity_cmp}
use Rattle.jpa_model.specs.Chains.{relations_of, attributes_of, is_versioned}
use Rattle.jpa_stored.specs.objects.Sets.{StoredSet, with_stored, without, fault_of}
use Rattle.jpa_work.specs.heap.Objects.{held_at}
use Rattle.jpa_work.specs.context.Work.{Work, object, state_of, is_managed, instance, row, row_at, identity_at}
use Rattle.jpa_work.specs.context.Work.{with_object}
use Rattle.jpa_work.specs.context.Work.{with_base, with_entry, base_of}
use Rattle.jpa_work.specs.declared.context.EntityState.{EntityState}
use Rattle.jpa_lifecycle.specs.Callbacks.{callback}
use Rattle.jpa_cascade.specs.declared.Operation.{Operation}
use Rattle.jpa_cascade.specs.declared.Node.{Node}
use Rattle.jpa_cascade.specs.Waves.{targets, live_nodes, members_now}
use Rattle.jpa_operations.specs.fetch.Grown.{objects_held}
use Rattle.jpa_operations.specs.fetch.Load.{load}
use Rattle.jpa_operations.specs.ops.States.{persist, remove}

-- ---- persist along cascades: each managed object's targets, also of objects that enter meanwhile

-- persists what a managed object leads to along PERSIST and ALL; in other states it leads nowhere
abbrev pub persist_targets : World → ℕ → EntityState → Op (Unit {0})
persist_targets world n EntityState.Managed w =
    each (persist world) (live_nodes (targets world.model Operation.Persist w (Node.Live n))) w
persist_targets world n EntityState.New w = Done tt w
persist_targets world n EntityState.Removed w = Done tt w
persist_targets world n EntityState.Detached w = Done tt w

-- persists what the object of an entry leads to, where there is an entry
abbrev pub persist_behind : World → Option Entry → Op (Unit {0})
persist_behind world None w = Done tt w
persist_behind world (Some e) w = persist_targets world e.object (state_of w e.object) w

-- from place i of the context on. Only live objects enter, so their number bounds the places
abbrev pub persist_from : World → ℕ → ℕ → Op (Unit {0})
persist_from world zero i w = Done tt w
persist_from world (suc bound) i w =
    after (persist_behind world (slice_get w.context i) w) (λ _. persist_from world bound (suc i))

-- persists all that managed objects lead to along PERSIST and ALL (chapter 3.2.4)
abbrev pub persist_reachable : World → Op (Unit {0})
persist_reachable world w = persist_from world (length w.objects) 0 w

-- ---- identities in relations

-- an identity as a list, or the empty list
abbrev pub listed : Option Identity → List Identity
listed None = []
listed (Some id) = id ∷ []

-- a set as its members in rising order, each once
abbrev pub into_rising : Identity → List Identity → List Identity
into_rising id [] = id ∷ []
into_rising id (x ∷ xs) = by_order (identity_cmp id x) (id ∷ x ∷ xs) (x ∷ xs) (x ∷ into_rising id xs)

-- identities in rising order, each once
abbrev pub rising : List Identity → List Identity
rising [] = []
rising (x ∷ xs) = into_rising x (rising xs)

-- the identities that a relation holds now; nothing where it was not read
abbrev pub held_now : PersistenceUnit → Work → Held → Option (List Identity)
held_now m w (Held.One Link.None) = Some []
held_now m w (Held.One (Link.Object k)) = Some (listed (identity_at m w k))
held_now m w (Held.One (Link.Key id)) = Some (id ∷ [])
held_now m w (Held.Many (Collection.Fetched ks)) = Some (rising (flat_map (λ k. listed (identity_at m w k)) ks))
held_now m w (Held.Many Collection.Unfetched) = None

-- whether two lists have the same identities in the same order
abbrev pub same_identities : List Identity → List Identity → Bool
same_identities [] [] = true
same_identities [] (y ∷ ys) = false
same_identities (x ∷ xs) [] = false
same_identities (x ∷ xs) (y ∷ ys) = same_identity x y && same_identities xs ys

-- ---- orphans

-- what a base remembers of a relation; nothing without a base, or where that was not read
abbrev pub in_base : Option Base → ℕ → Option (List Identity)
in_base None r = None
in_base (Some b) r = slice_index_or b.members r None

-- what stood there and does not stand there now
abbrev pub gone_from : Option (List Identity) → Option (List Identity) → List Identity
gone_from None now = []
gone_from (Some before) None = []
gone_from (Some before) (Some now) = filter (λ id. not (list_any (same_identity id) now)) before

-- what a relation with orphan removal held in the base and holds no more (chapter 2.9)
abbrev pub orphans_along : PersistenceUnit → Work → ℕ → ℕ × Relation → List Identity
orphans_along m w n p =
    if (p.1).orphan_removal then gone_from (in_base (base_of w n) p.0) (held_now m w (held_at (object w n) p.0)) else []

-- the orphans of a managed object; in other states it has none
abbrev pub orphans_of : PersistenceUnit → Work → ℕ → EntityState → List Identity
orphans_of m w n EntityState.Managed =
    flat_map (orphans_along m w n) (enumerate_from 0 (relations_of m (object w n).class))
orphans_of m w n EntityState.New = []
orphans_of m w n EntityState.Removed = []
orphans_of m w n EntityState.Detached = []

-- removes an orphan that is managed; in other states it stays as it is
abbrev pub remove_instance : World → ℕ → EntityState → Op (Unit {0})
remove_instance world k EntityState.Managed = remove world k
remove_instance world k EntityState.New = done
remove_instance world k EntityState.Removed = done
remove_instance world k EntityState.Detached = done

-- removes an orphan: the context's instance, else its row loaded; else there is none
abbrev pub remove_orphan_in : World → Identity → Option ℕ → Option Stored → Op (Unit {0})
remove_orphan_in world id (Some k) x w = remove_instance world k (state_of w k) w
remove_orphan_in world id None (Some x) w = after (load world id x w) (λ k. remove world k)
remove_orphan_in world id None None w = Done tt w

-- removes the orphan with this identity
abbrev pub remove_orphan : World → Identity → Op (Unit {0})
remove_orphan world id w = remove_orphan_in world id (instance world.model w id) (row w id) w

-- removes the orphans of an entry's object
abbrev pub remove_orphans_of : World → Entry → Op (Unit {0})
remove_orphans_of world e w = each (remove_orphan world) (orphans_of world.model w e.object (state_of w e.object)) w

-- removes the orphans of all objects of the context (chapter 2.9)
abbrev pub remove_orphans : World → Op (Unit {0})
remove_orphans world w = each (remove_orphans_of world) w.context w

-- ---- links to what is not stored

-- whether an object may be led to without a cascade: it is managed or detached
abbrev pub is_storable : EntityState → Bool
is_storable EntityState.New = false
is_storable EntityState.Managed = true
is_storable EntityState.Removed = false
is_storable EntityState.Detached = true

-- a relation cascades persist, or leads to managed and detached objects alone
abbrev pub links_along : Work → ℕ → ℕ × Relation → Bool
links_along w n p = ((p.1).cascade).persist || list_all (λ k. is_storable (state_of w k))
    (objects_held (held_at (object w n) p.0))

-- an object isn't managed, or each of its relations may be stored
abbrev pub links_stored : PersistenceUnit → Work → Entry → Bool
links_stored m w e = not (is_managed (state_of w e.object)) || list_all (links_along w e.object)
    (enumerate_from 0 (relations_of m (object w e.object).class))

-- refuses a managed object that leads to a new or removed one without a cascade (chapter 3.2.4)
abbrev pub check_links : World → Op (Unit {0})
check_links world w = require (list_all (links_stored world.model w) w.context) (Cause.IllegalState State.Reference) w

-- ---- what differs from its base

-- whether two lists have the same values in the same order
abbrev pub same_values : List Value → List Value → Bool
same_values [] [] = true
same_values [] (y ∷ ys) = false
same_values (x ∷ xs) [] = false
same_values (x ∷ xs) (y ∷ ys) = same_value x y && same_values xs ys

-- whether a relation holds what the base remembers, where both are known
abbrev pub same_if_read : Option (List Identity) → Option (List Identity) → Bool
same_if_read (Some before) (Some now) = same_identities before now
same_if_read (Some before) None = true
same_if_read None now = true

-- whether this side owns its relation (chapter 2.9)
abbrev pub is_owner : Side → Bool
is_owner (Side.ManyToOne c) = true
is_owner (Side.OneToOne c) = true
is_owner (Side.OneToOneInverse owner) = false
is_owner (Side.OneToMany owner) = false
is_owner (Side.ManyToMany table) = true
is_owner (Side.ManyToManyInverse owner) = false

-- a relation isn't owned, or holds what the base remembers of it
abbrev pub same_along : PersistenceUnit → Work → ℕ → Base → ℕ × Relation → Bool
same_along m w n b p =
    not (is_owner (p.1).side) || same_if_read (in_base (Some b) p.0) (held_now m w (held_at (object w n) p.0))

-- an attribute value, an owned link or an owned set that was read is not the base's
abbrev pub differs : PersistenceUnit → Work → ℕ → Base → Bool
differs m w n b =
    not (same_values (object w n).values (b.stored).values && list_all (same_along m w n b)
    (enumerate_from 0 (relations_of m (object w n).class)))

-- whether a lock raises the version (chapter 3.4.4)
abbrev pub is_write : Lock → Bool
is_write Lock.Write = true
is_write Lock.Read = false
is_write Lock.Unlocked = false

-- ---- what is to be written

-- what becomes of an object's row: it is inserted, replaced or dropped
pub data Action : Type 0 where
  Insert : Action
  Replace : Base → Action
  Drop : Base → Action

-- the row is replaced where this is true
abbrev pub replace_if : Bool → Base → Option Action
replace_if true b = Some (Replace b)
replace_if false b = None

-- a managed object inserts its row or replaces it; a removed one drops it
abbrev pub action_in : PersistenceUnit → Work → Entry → EntityState → Option Base → Option Action
action_in m w e EntityState.Managed None = Some Insert
action_in m w e EntityState.Managed (Some b) = replace_if (differs m w e.object b || is_write e.lock) b
action_in m w e EntityState.Removed (Some b) = Some (Drop b)
action_in m w e EntityState.Removed None = None
action_in m w e EntityState.New b = None
action_in m w e EntityState.Detached b = None

-- what becomes of the row of an entry's object, if anything
abbrev pub action_of : PersistenceUnit → Work → Entry → Option Action
action_of m w e = action_in m w e (state_of w e.object) e.base

-- ---- PreUpdate

-- PreUpdate runs on an object whose row is to be replaced (chapter 3.5)
abbrev pub pre_update_for : World → Entry → Option Action → Op (Unit {0})
pre_update_for world e (Some (Replace b)) = callback world LifecycleEvent.PreUpdate e.object
pre_update_for world e (Some Insert) = done
pre_update_for world e (Some (Drop b)) = done
pre_update_for world e None = done

-- PreUpdate runs on the object of an entry, if its row is to be replaced
abbrev pub pre_update_one : World → Entry → Op (Unit {0})
pre_update_one world e w = pre_update_for world e (action_of world.model w e) w

-- PreUpdate runs where rows are to be replaced, in the order of the context (chapter 3.5)
abbrev pub pre_update : World → Op (Unit {0})
pre_update world w = each (pre_update_one world) w.context w

-- ---- the checks of each object against V

-- whether two versions are the same, none and none among them
abbrev pub same_version : Option ℤ → Option ℤ → Bool
same_version None None = true
same_version None (Some n) = false
same_version (Some n) None = false
same_version (Some m) (Some n) = is_eq (int_cmp m n)

-- whether there is a row, with the version of the base (chapter 3.4.1)
abbrev pub row_is_base : Option Stored → Base → Bool
row_is_base None b = false
row_is_base (Some x) b = same_version x.version (b.stored).version

-- the greatest version, 2^63 - 1
abbrev pub greatest_version : ℤ
greatest_version = pos 9223372036854775807

-- whether a version is below the greatest; where there is none, nothing stands against it
abbrev pub can_rise : Option ℤ → Bool
can_rise None = true
can_rise (Some n) = is_lt (int_cmp n greatest_version)

-- whether a value can be stored: it is null, has no converter, or one that takes it (chapter 3.8)
abbrev pub converts : World → Option (List ℕ) → Value → Bool
converts world None v = true
converts world (Some name) v = is_null v || is_some (world.column name v)

-- whether each attribute's converter takes its value (chapter 3.8)
abbrev pub all_convert : World → LiveObject → Bool
all_convert world x =
    list_all (λ p. converts world (p.0).converter p.1) (zip (attributes_of world.model x.class) x.values)

-- the checks of an action: an identity that is free, or the base's version; a version that can
-- rise; values that can be stored (chapters 3.2.4 and 3.4.1)
abbrev pub check_action : World → Entry → Option Action → Op (Unit {0})
check_action world e None = done
check_action world e (Some Insert) = do
  free ← read (λ w. not (is_some (row_at w (identity_at world.model w e.object))))
  require free Cause.EntityExists
  convertible ← read (λ w. all_convert world (object w e.object))
  require convertible (Cause.Persistence PersistenceFault.Converter)
check_action world e (Some (Replace b)) = do
  current ← read (λ w. row_is_base (row_at w (identity_at world.model w e.object)) b)
  require current Cause.OptimisticLock
  require (can_rise (b.stored).version) (Cause.Persistence PersistenceFault.Version)
  convertible ← read (λ w. all_convert world (object w e.object))
  require convertible (Cause.Persistence PersistenceFault.Converter)
check_action world e (Some (Drop b)) = do
  current ← read (λ w. row_is_base (row_at w (identity_at world.model w e.object)) b)
  require current Cause.OptimisticLock

-- the check of an entry's object
abbrev pub check_one : World → Entry → Op (Unit {0})
check_one world e w = check_action world e (action_of world.model w e) w

-- the checks of all objects against the view, in the order of the context
abbrev pub check_actions : World → Op (Unit {0})
check_actions world w = each (check_one world) w.context w

-- ---- the new set

-- the version of a row that is inserted: 0, where the hierarchy has one
abbrev pub first_version : Bool → Option ℤ
first_version true = Some (pos 0)
first_version false = None

-- a version and one more, where there is one
abbrev pub raised : Option ℤ → Option ℤ
raised None = None
raised (Some n) = Some (n +ℤ pos 1)

-- what a relation holds now, where that is known; else what is kept
abbrev pub owned_or : List Identity → Option (List Identity) → List Identity
owned_or kept None = kept
owned_or kept (Some now) = now

-- only what the object owns is written; an owned set that was not read stays as the view has it
abbrev pub owned_along : PersistenceUnit → Work → ℕ → ℕ × Relation → List Identity
owned_along m w n p =
    if is_owner (p.1).side
    then owned_or (members_now m w n p.0) (held_now m w (held_at (object w n) p.0))
    else []

-- an object as it is stored, with this version
abbrev pub stored_of : PersistenceUnit → Work → ℕ → Option ℤ → Stored
stored_of m w n version =
    record {
      class = (object w n).class;
      version = version;
      values = (object w n).values;
      owned = map (owned_along m w n) (enumerate_from 0 (relations_of m (object w n).class));
    }

-- what is written for an action, if anything
abbrev pub written : PersistenceUnit → Work → ℕ → Action → Option Stored
written m w n Insert = Some (stored_of m w n (first_version (is_versioned m (object w n).class)))
written m w n (Replace b) = Some (stored_of m w n (raised (b.stored).version))
written m w n (Drop b) = None

-- an object with its action, where there is one
abbrev pub planned : PersistenceUnit → Work → Entry → Option Action → List (ℕ × Action)
planned m w e None = []
planned m w e (Some a) = (e.object, a) ∷ []

-- the actions, in the order of the context
abbrev pub actions : PersistenceUnit → Work → List (ℕ × Action)
actions m w = flat_map (λ e. planned m w e (action_of m w e)) w.context

-- whether an action concerns a row that stands
abbrev pub replaces_row : Action → Bool
replaces_row Insert = false
replaces_row (Replace b) = true
replaces_row (Drop b) = true

-- a set with what is written under an identity, where there are both
abbrev pub joined : Option Identity → Option Stored → StoredSet → StoredSet
joined None x s = s
joined (Some id) None s = s
joined (Some id) (Some x) s = with_stored id x s

-- a set with what the actions write, one after the other
abbrev pub joined_all : PersistenceUnit → Work → List (ℕ × Action) → StoredSet → StoredSet
joined_all m w [] s = s
joined_all m w (a ∷ as') s = joined_all m w as' (joined (identity_at m w a.0) (written m w a.0 a.1) s)

-- the view without the identities that are replaced or dropped, joined with what is written
abbrev pub flushed : PersistenceUnit → Work → List (ℕ × Action) → StoredSet
flushed m w plan =
    joined_all m w plan (without (flat_map (λ a. listed (identity_at m w a.0)) (filter (λ a. replaces_row a.1) plan))
    w.view)

-- a fault of the new set is refused
abbrev pub sound_or : Option PersistenceFault → Op (Unit {0})
sound_or None = done
sound_or (Some fault) = refuse (Cause.Persistence fault)

-- ---- the new bases and the Post events

-- the identities in each relation of an object, as far as they are known
abbrev pub members_held : PersistenceUnit → Work → ℕ → List (Option (List Identity))
members_held m w n = map (held_now m w) (object w n).relations

-- a lock that raises the version does so once
abbrev pub lowered : Lock → Lock
lowered Lock.Write = Lock.Read
lowered Lock.Read = Lock.Read
lowered Lock.Unlocked = Lock.Unlocked

-- the entry after its row was written: the row is its base, and its lock is lowered
abbrev pub settled_entry : Stored → Entry → Entry
settled_entry x e = record e { base = Some (record { stored = x; members = [] }); lock = lowered e.lock }

-- an object takes the version written, and its base is what was written; a dropped one has no base
abbrev pub settled : ℕ → Option Stored → Work → Work
settled n None w = with_base n None w
settled n (Some x) w = with_entry n (settled_entry x) (with_object n (record (object w n) { version = x.version }) w)

-- the work after rows were written: each object is settled, in turn
abbrev pub settled_all : PersistenceUnit → Work → List (ℕ × Action) → Work → Work
settled_all m before [] w = w
settled_all m before (a ∷ as') w = settled_all m before as' (settled a.0 (written m before a.0 a.1) w)

-- a base that remembers these members, where there is a base
abbrev pub remembered_in : List (Option (List Identity)) → Option Base → Option Base
remembered_in members None = None
remembered_in members (Some b) = Some (record b { members = members })

-- an entry whose base remembers what relations hold, where its object is managed
abbrev pub remembered : PersistenceUnit → Work → Entry → Entry
remembered m w e = if is_managed (state_of w e.object)
    then record e { base = remembered_in (members_held m w e.object) e.base } else e

-- the base of each managed object takes the members that its read relations have now
abbrev pub all_remembered : PersistenceUnit → Work → Work
all_remembered m w = record w { context = map (remembered m w) w.context }

-- the work after a flush: objects are settled, bases remember, and the view is the new set
abbrev pub after_flush : PersistenceUnit → List (ℕ × Action) → StoredSet → Work → Work
after_flush m plan set w = let v = all_remembered m (settled_all m w plan w) in record v { view = set }

-- the event that follows an action: PostPersist, PostUpdate or PostRemove (chapter 3.5)
abbrev pub post_event : Action → LifecycleEvent
post_event Insert = LifecycleEvent.PostPersist
post_event (Replace b) = LifecycleEvent.PostUpdate
post_event (Drop b) = LifecycleEvent.PostRemove

-- the event that follows an action runs on its object
abbrev pub post : World → ℕ × Action → Op (Unit {0})
post world a = callback world (post_event a.1) a.0

-- the new set is made and judged; then the work takes it, and the Post events run
abbrev pub write_all : World → Op (Unit {0})
write_all world = do
  plan ← read (actions world.model)
  set ← read (λ w. flushed world.model w plan)
  sound_or (fault_of world.model set)
  change (after_flush world.model plan set)
  each (post world) plan

-- a flush, in six parts (chapter 3.2.4)
abbrev pub flush : World → Op (Unit {0})
flush world = do
  persist_reachable world
  remove_orphans world
  check_links world
  pre_update world
  check_actions world
  write_all world

-- ---- locks at a commit (chapter 3.4.4.1)

-- whether a lock is READ
abbrev pub is_read_lock : Lock → Bool
is_read_lock Lock.Read = true
is_read_lock Lock.Write = false
is_read_lock Lock.Unlocked = false

-- whether an object's row has the version of its base; without a base this holds
abbrev pub base_is_row : PersistenceUnit → Work → Entry → Option Base → Bool
base_is_row m w e None = true
base_is_row m w e (Some b) = row_is_base (row_at w (identity_at m w e.object)) b

-- an object that is managed and locked READ has the version that its row has
abbrev pub read_holds : PersistenceUnit → Work → Entry → Bool
read_holds m w e = not (is_read_lock e.lock && is_managed (state_of w e.object)) || base_is_row m w e e.base

-- each object that is managed and locked READ has its row's version (chapter 3.4.4.1)
abbrev pub reads_hold : PersistenceUnit → Work → Bool
reads_hold m w = list_all (read_holds m w) w.context

-- the flush before a query or a bulk statement, in a transaction under flush mode AUTO (chapter
-- 3.10.8)
abbrev pub flush_if : Bool → World → Op (Unit {0})
flush_if true world = flush world
flush_if false world = done
