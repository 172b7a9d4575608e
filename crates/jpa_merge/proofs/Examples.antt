-- Persons and their orders: what merge leaves of a work.
use Rattle.std.specs.Prelude.{◌≡◌, refl, ℕ, ℤ, true, false, pos, List, [], ◌∷◌, ◌++◌, Option, Some, None}
use Rattle.jpa_value.specs.declared.value.Value.{Value}
use Rattle.jpa_value.specs.declared.value.Kind.{Kind}
use Rattle.jpa_value.specs.declared.value.Identity.{Identity}
use Rattle.jpa_value.specs.declared.refusal.Cause.{Cause}
use Rattle.jpa_value.specs.declared.refusal.Argument.{Argument}
use Rattle.jpa_value.specs.declared.refusal.State.{State}
use Rattle.jpa_value.specs.declared.event.LifecycleEvent.{LifecycleEvent}
use Rattle.jpa_model.specs.declared.unit.Entity.{Entity}
use Rattle.jpa_model.specs.declared.unit.Origin.{Origin}
use Rattle.jpa_model.specs.declared.unit.Side.{Side}
use Rattle.jpa_behaviour.specs.Behaviour.{World, without_functions}
use Rattle.jpa_stored.specs.declared.objects.stored.Stored.{Stored}
use Rattle.jpa_stored.specs.objects.Sets.{StoredSet}
use Rattle.jpa_work.specs.declared.heap.Collection.{Collection}
use Rattle.jpa_work.specs.declared.heap.Held.{Held}
use Rattle.jpa_work.specs.declared.heap.Life.{Life}
use Rattle.jpa_work.specs.declared.heap.Link.{Link}
use Rattle.jpa_work.specs.declared.heap.LiveObject.{LiveObject}
use Rattle.jpa_work.specs.declared.context.Entry.{Entry}
use Rattle.jpa_work.specs.declared.context.Lock.{Lock}
use Rattle.jpa_work.specs.context.Steps.{Done, Refused}
use Rattle.jpa_work.specs.context.Work.{Work}
use Rattle.jpa_protocol.specs.declared.event.Told.{Told}
use Rattle.jpa_merge.specs.Merge.{merge}

-- a person has a generated key, a version and a name (here a number), and orders along which merge is cascaded; an order has its
-- person
abbrev person : Entity
person =
    record {
      name = 112 ∷ [];
      origin = Origin.Root (record { table = 1; key = record { name = 105 ∷ []; kind = Kind.Int } ∷ []; embedded = None; generated = true; version = Some (record { name = 118 ∷ []; column = 1 }) });
      discriminator = 112 ∷ [];
      attributes = record { name = 97 ∷ []; kind = Kind.Int; column = 2; required = false; converter = None } ∷ [];
      relations = record { name = 111 ∷ []; side = Side.OneToMany 0; target = 1; cascade = record { persist = true; merge = true; remove = true; refresh = true; detach = true }; orphan_removal = true } ∷ [];
      listeners = [];
      callbacks = [];
      exclude_default = false;
      exclude_super = false;
    }

abbrev order : Entity
order =
    record {
      name = 111 ∷ [];
      origin = Origin.Root (record { table = 2; key = record { name = 110 ∷ []; kind = Kind.Int } ∷ []; embedded = None; generated = false; version = None });
      discriminator = 111 ∷ [];
      attributes = record { name = 97 ∷ []; kind = Kind.Int; column = 1; required = false; converter = None } ∷ [];
      relations = record { name = 112 ∷ []; side = Side.ManyToOne (record { column = 2; required = false }); target = 0; cascade = record { persist = false; merge = false; remove = false; refresh = false; detach = false }; orphan_removal = false } ∷ [];
      listeners = [];
      callbacks = [];
      exclude_default = false;
      exclude_super = false;
    }

abbrev world : World
world = without_functions (record { revision = 1; listeners = []; entities = person ∷ order ∷ [] })

abbrev key_of : ℕ → List Value
key_of n = Value.Int (pos n) ∷ []

abbrev person_id : ℕ → Identity
person_id n = record { table = 1; key = key_of n }

abbrev order_id : ℕ → Identity
order_id n = record { table = 2; key = key_of n }

abbrev saw : LifecycleEvent → ℕ → Told
saw event n = record { event = event; object = n; ran = [] }

abbrev stored_person : ℕ → ℕ → Stored
stored_person version name = record { class = 0; version = Some (pos version); values = Value.Int (pos name) ∷ []; owned = [] ∷ [] }

abbrev stored_order : ℕ → Stored
stored_order amount = record { class = 1; version = None; values = Value.Int (pos amount) ∷ []; owned = (person_id 1 ∷ []) ∷ [] }

-- person 1 at version 3 with orders 10 and 11
abbrev view : StoredSet
view = (person_id 1, stored_person 3 40) ∷ (order_id 10, stored_order 5) ∷ (order_id 11, stored_order 7) ∷ []

abbrev version_at : Option ℕ → Option ℤ
version_at None = None
version_at (Some v) = Some (pos v)

abbrev live_person : List Value → Option ℕ → ℕ → Collection → Life → LiveObject
live_person key version name orders life = record { class = 0; key = key; version = version_at version; values = Value.Int (pos name) ∷ []; relations = Held.Many orders ∷ []; life = life }

abbrev live_order : ℕ → ℕ → Link → Life → LiveObject
live_order n amount person life = record { class = 1; key = key_of n; version = None; values = Value.Int (pos amount) ∷ []; relations = Held.One person ∷ []; life = life }

abbrev person_entry : ℕ → Option (List Identity) → Entry
person_entry object orders = record { object = object; key = key_of 1; lock = Lock.Unlocked; base = Some (record { stored = stored_person 3 40; members = orders ∷ [] }) }

abbrev order_entry : ℕ → ℕ → ℕ → Entry
order_entry object n amount =
    record { object = object; key = key_of n; lock = Lock.Unlocked; base = Some (record { stored = stored_order amount; members = Some (person_id 1 ∷ []) ∷ [] }) }

abbrev work : List LiveObject → List Entry → List ℕ → List Told → Work
work objects context numbers events = record { manager = 0; objects = objects; context = context; numbers = numbers; view = view; events = events }

-- ---- onto a managed object: a new one of its key, one of another version, one of another name

abbrev managed : LiveObject
managed = live_person (key_of 1) (Some 3) 40 Collection.Unfetched (Life.Managed 0)

abbrev unread : LiveObject
unread = live_person (key_of 1) None 41 Collection.Unfetched Life.New

abbrev stale : LiveObject
stale = live_person (key_of 1) (Some 2) 41 (Collection.Fetched []) Life.Detached

abbrev beside : Work
beside = work (managed ∷ unread ∷ stale ∷ live_order 10 6 Link.None (Life.Removed 0) ∷ []) (person_entry 0 None ∷ order_entry 3 10 5 ∷ []) (2 ∷ 1 ∷ []) []

onto_managed : merge world 1 beside ≡
    Done 0 (record beside { objects = live_person (key_of 1) (Some 3) 41 Collection.Unfetched (Life.Managed 0) ∷ unread ∷ stale ∷ live_order 10 6 Link.None (Life.Removed 0) ∷ [] })
onto_managed = refl

onto_itself : merge world 0 beside ≡ Done 0 beside
onto_itself = refl

another_version : merge world 2 beside ≡ Refused Cause.OptimisticLock []
another_version = refl

removed : merge world 3 beside ≡ Refused (Cause.IllegalArgument Argument.State) []
removed = refl

-- ---- a new object stays new; its image is another

abbrev new_person : LiveObject
new_person = live_person (Value.Null ∷ []) None 41 (Collection.Fetched []) Life.New

made : merge world 0 (work (new_person ∷ []) [] (2 ∷ 1 ∷ []) []) ≡
    Done 1 (work (new_person ∷ live_person (key_of 2) None 41 (Collection.Fetched []) (Life.Managed 0) ∷ [])
    (record { object = 1; key = key_of 2; lock = Lock.Unlocked; base = None } ∷ []) (3 ∷ 1 ∷ []) (saw LifecycleEvent.PrePersist 2 ∷ []))
made = refl

-- what never was stored has no version
no_row : merge world 0 (work (live_person (key_of 9) (Some 0) 41 (Collection.Fetched []) Life.Detached ∷ []) [] (2 ∷ 1 ∷ []) []) ≡ Refused Cause.OptimisticLock []
no_row = refl

-- ---- into a collection that was not read: its base takes what the view has in it

abbrev without_orders : LiveObject
without_orders = live_person (key_of 1) None 41 (Collection.Fetched []) Life.New

into_unread : merge world 0 (work (without_orders ∷ []) [] (2 ∷ 1 ∷ []) []) ≡
    Done 1 (work (without_orders ∷ live_person (key_of 1) (Some 3) 41 (Collection.Fetched []) (Life.Managed 0) ∷ []) (person_entry 1 (Some (order_id 10 ∷ order_id 11 ∷ [])) ∷ [])
    (2 ∷ 1 ∷ []) (saw LifecycleEvent.PostLoad 2 ∷ []))
into_unread = refl

-- ---- a detached person with a detached order of another amount: images lead to images

abbrev apart : List LiveObject
apart = live_person (key_of 1) (Some 3) 41 (Collection.Fetched (1 ∷ [])) Life.Detached ∷ live_order 10 6 (Link.Object 0) Life.Detached ∷ []

images : merge world 0 (work apart [] (2 ∷ 1 ∷ []) []) ≡
    Done 2 (work (apart ++ live_person (key_of 1) (Some 3) 41 (Collection.Fetched (3 ∷ [])) (Life.Managed 0) ∷ live_order 10 6 (Link.Object 2) (Life.Managed 0) ∷ [])
    (person_entry 2 (Some (order_id 10 ∷ order_id 11 ∷ [])) ∷ order_entry 3 10 5 ∷ []) (2 ∷ 1 ∷ []) (saw LifecycleEvent.PostLoad 3 ∷ saw LifecycleEvent.PostLoad 4 ∷ []))
images = refl

-- an order alone leads to its person's row, loaded, and to nobody where there is none
abbrev order_of : ℕ → List LiveObject
order_of n = live_person (key_of n) (Some 3) 41 (Collection.Fetched []) Life.Detached ∷ live_order 10 6 (Link.Object 0) Life.Detached ∷ []

reached : merge world 1 (work (order_of 1) [] (2 ∷ 1 ∷ []) []) ≡
    Done 2 (work (order_of 1 ++ live_order 10 6 (Link.Object 3) (Life.Managed 0) ∷ live_person (key_of 1) (Some 3) 40 Collection.Unfetched (Life.Managed 0) ∷ [])
    (order_entry 2 10 5 ∷ person_entry 3 None ∷ []) (2 ∷ 1 ∷ []) (saw LifecycleEvent.PostLoad 3 ∷ saw LifecycleEvent.PostLoad 4 ∷ []))
reached = refl

not_reached : merge world 1 (work (order_of 9) [] (2 ∷ 1 ∷ []) []) ≡ Refused (Cause.IllegalState State.Reference) (saw LifecycleEvent.PostLoad 3 ∷ [])
not_reached = refl
