-- Persons: what remove, refresh, detach and lock leave of a work.
use Rattle.std.specs.Prelude.{◌≡◌, refl, ℕ, true, false, pos, List, [], ◌∷◌, ◌++◌, Option, Some, None}
use Rattle.jpa_value.specs.declared.value.Value.{Value}
use Rattle.jpa_value.specs.declared.value.Kind.{Kind}
use Rattle.jpa_value.specs.declared.value.Identity.{Identity}
use Rattle.jpa_value.specs.declared.refusal.Cause.{Cause}
use Rattle.jpa_value.specs.declared.refusal.Argument.{Argument}
use Rattle.jpa_value.specs.declared.event.LifecycleEvent.{LifecycleEvent}
use Rattle.jpa_model.specs.declared.unit.Entity.{Entity}
use Rattle.jpa_model.specs.declared.unit.Origin.{Origin}
use Rattle.jpa_model.specs.declared.unit.Relation.{Relation}
use Rattle.jpa_model.specs.declared.unit.Side.{Side}
use Rattle.jpa_behaviour.specs.Behaviour.{World, without_functions}
use Rattle.jpa_stored.specs.declared.objects.stored.Stored.{Stored}
use Rattle.jpa_stored.specs.objects.Sets.{StoredSet}
use Rattle.jpa_work.specs.declared.heap.Collection.{Collection}
use Rattle.jpa_work.specs.declared.heap.Held.{Held}
use Rattle.jpa_work.specs.declared.heap.Life.{Life}
use Rattle.jpa_work.specs.declared.heap.LiveObject.{LiveObject}
use Rattle.jpa_work.specs.declared.context.Base.{Base}
use Rattle.jpa_work.specs.declared.context.Entry.{Entry}
use Rattle.jpa_work.specs.declared.context.Lock.{Lock}
use Rattle.jpa_work.specs.context.Steps.{Done, Refused}
use Rattle.jpa_work.specs.context.Work.{Work}
use Rattle.jpa_protocol.specs.declared.event.Told.{Told}
use Rattle.jpa_operations.specs.ops.States.{detach, lock, refresh, remove}

abbrev person : List Relation → Entity
person relations =
    record {
      name = 112 ∷ [];
      origin = Origin.Root (record { table = 1; key = record { name = 105 ∷ []; kind = Kind.Int } ∷ []; embedded = None; generated = false; version = Some (record { name = 118 ∷ []; column = 1 }) });
      discriminator = 112 ∷ [];
      attributes = record { name = 97 ∷ []; kind = Kind.Int; column = 2; required = false; converter = None } ∷ [];
      relations = relations;
      listeners = [];
      callbacks = [];
      exclude_default = false;
      exclude_super = false;
    }

abbrev world_of : List Relation → World
world_of relations = without_functions (record { revision = 1; listeners = []; entities = person relations ∷ [] })

abbrev id : ℕ → Identity
id n = record { table = 1; key = Value.Int (pos n) ∷ [] }

abbrev saw : LifecycleEvent → ℕ → Told
saw event n = record { event = event; object = n; ran = [] }

abbrev state : Cause
state = Cause.IllegalArgument Argument.State

-- ---- persons alone

abbrev alone : World
alone = world_of []

-- of a version and an age
abbrev stored : ℕ → ℕ → Stored
stored version age = record { class = 0; version = Some (pos version); values = Value.Int (pos age) ∷ []; owned = [] }

abbrev object : ℕ → ℕ → ℕ → Life → LiveObject
object n version age life = record { class = 0; key = Value.Int (pos n) ∷ []; version = Some (pos version); values = Value.Int (pos age) ∷ []; relations = []; life = life }

abbrev entry : ℕ → ℕ → Lock → Option Base → Entry
entry object n lock base = record { object = object; key = Value.Int (pos n) ∷ []; lock = lock; base = base }

abbrev base : ℕ → ℕ → Option Base
base version age = Some (record { stored = stored version age; members = [] })

abbrev work : List LiveObject → List Entry → List Told → Work
work objects context events =
    record { manager = 0; objects = objects; context = context; numbers = 1 ∷ []; view = (id 10, stored 3 40) ∷ (id 11, stored 1 50) ∷ []; events = events }

-- a new one, one of another manager, a removed one, and two managed ones: the first was changed to 41 over an old version, the
-- last is not stored
abbrev others : List LiveObject
others = object 9 0 1 Life.New ∷ object 10 3 2 (Life.Managed 1) ∷ object 11 1 50 (Life.Removed 0) ∷ []

abbrev before : Work
before = work (others ++ object 10 2 41 (Life.Managed 0) ∷ object 12 0 6 (Life.Managed 0) ∷ [])
    (entry 2 11 Lock.Unlocked (base 1 50) ∷ entry 3 10 Lock.Read (base 2 40) ∷ entry 4 12 Lock.Unlocked None ∷ []) []

refreshed : refresh alone 3 before ≡
    Done tt (work (others ++ object 10 3 40 (Life.Managed 0) ∷ object 12 0 6 (Life.Managed 0) ∷ [])
    (entry 2 11 Lock.Unlocked (base 1 50) ∷ entry 3 10 Lock.Read (base 3 40) ∷ entry 4 12 Lock.Unlocked None ∷ []) (saw LifecycleEvent.PostLoad 4 ∷ []))
refreshed = refl

not_stored : refresh alone 4 before ≡ Refused Cause.EntityNotFound []
not_stored = refl

new_refused : refresh alone 0 before ≡ Refused state []
new_refused = refl

detached_refused : refresh alone 1 before ≡ Refused state []
detached_refused = refl

removed_refused : refresh alone 2 before ≡ Refused state []
removed_refused = refl

removed : remove alone 3 before ≡
    Done tt (work (others ++ object 10 2 41 (Life.Removed 0) ∷ object 12 0 6 (Life.Managed 0) ∷ []) before.context (saw LifecycleEvent.PreRemove 4 ∷ []))
removed = refl

new_stays : remove alone 0 before ≡ Done tt before
new_stays = refl

removed_stays : remove alone 2 before ≡ Done tt before
removed_stays = refl

not_removed : remove alone 1 before ≡ Refused state []
not_removed = refl

let_go : detach alone 3 before ≡
    Done tt (work (others ++ object 10 2 41 Life.Detached ∷ object 12 0 6 (Life.Managed 0) ∷ []) (entry 2 11 Lock.Unlocked (base 1 50) ∷ entry 4 12 Lock.Unlocked None ∷ []) [])
let_go = refl

-- a removed one too: its row stays
removed_let_go : detach alone 2 before ≡
    Done tt (work (object 9 0 1 Life.New ∷ object 10 3 2 (Life.Managed 1) ∷ object 11 1 50 Life.Detached ∷ object 10 2 41 (Life.Managed 0) ∷ object 12 0 6 (Life.Managed 0) ∷ [])
    (entry 3 10 Lock.Read (base 2 40) ∷ entry 4 12 Lock.Unlocked None ∷ []) [])
removed_let_go = refl

new_ignored : detach alone 0 before ≡ Done tt before
new_ignored = refl

detached_ignored : detach alone 1 before ≡ Done tt before
detached_ignored = refl

locked : lock alone 3 Lock.Write before ≡
    Done tt (work before.objects (entry 2 11 Lock.Unlocked (base 1 50) ∷ entry 3 10 Lock.Write (base 2 40) ∷ entry 4 12 Lock.Unlocked None ∷ []) [])
locked = refl

not_locked : lock alone 2 Lock.Read before ≡ Refused state []
not_locked = refl

-- ---- persons and their friends

abbrev befriended : World
befriended =
    world_of (record { name = 102 ∷ []; side = Side.ManyToMany 2; target = 0; cascade = record { persist = false; merge = false; remove = true; refresh = false; detach = false }; orphan_removal = false } ∷ [])

abbrev knowing : List Identity → Stored
knowing friends = record { class = 0; version = Some (pos 1); values = Value.Null ∷ []; owned = friends ∷ [] }

abbrev friend : ℕ → Life → LiveObject
friend n life = record { class = 0; key = Value.Int (pos n) ∷ []; version = Some (pos 1); values = Value.Null ∷ []; relations = Held.Many Collection.Unfetched ∷ []; life = life }

abbrev known : List Identity → Option Base
known friends = Some (record { stored = knowing friends; members = None ∷ [] })

-- 14 knows 15 and 16, who knows 14; 16 alone is in the context beside it
abbrev view : StoredSet
view = (id 14, knowing (id 15 ∷ id 16 ∷ [])) ∷ (id 15, knowing []) ∷ (id 16, knowing (id 14 ∷ [])) ∷ []

abbrev friends : List LiveObject → List Entry → List Told → Work
friends objects context events = record { manager = 0; objects = objects; context = context; numbers = 1 ∷ []; view = view; events = events }

abbrev two : List Entry
two = entry 0 14 Lock.Unlocked (known (id 15 ∷ id 16 ∷ [])) ∷ entry 1 16 Lock.Unlocked (known (id 14 ∷ [])) ∷ []

-- what is not in the context is loaded at its turn
all_removed : remove befriended 0 (friends (friend 14 (Life.Managed 0) ∷ friend 16 (Life.Managed 0) ∷ []) two []) ≡
    Done tt (friends (friend 14 (Life.Removed 0) ∷ friend 16 (Life.Removed 0) ∷ friend 15 (Life.Removed 0) ∷ []) (two ++ entry 2 15 Lock.Unlocked (known []) ∷ [])
    (saw LifecycleEvent.PreRemove 1 ∷ saw LifecycleEvent.PostLoad 3 ∷ saw LifecycleEvent.PreRemove 3 ∷ saw LifecycleEvent.PreRemove 2 ∷ []))
all_removed = refl
