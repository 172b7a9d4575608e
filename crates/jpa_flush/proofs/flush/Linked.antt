-- A person who is led to a new one, and has friends that were not read: what a flush makes managed, writes and remembers; a lock
-- that raises the version; and a link that is refused.
use Rattle.std.specs.Prelude.{◌≡◌, refl, ℕ, ℤ, pos, Bool, true, false, List, [], ◌∷◌, Option, Some, None}
use Rattle.jpa_value.specs.declared.value.Value.{Value}
use Rattle.jpa_value.specs.declared.value.Kind.{Kind}
use Rattle.jpa_value.specs.declared.value.Identity.{Identity}
use Rattle.jpa_value.specs.declared.event.LifecycleEvent.{LifecycleEvent}
use Rattle.jpa_value.specs.declared.refusal.Cause.{Cause}
use Rattle.jpa_value.specs.declared.refusal.State.{State}
use Rattle.jpa_protocol.specs.declared.event.Told.{Told}
use Rattle.jpa_model.specs.declared.unit.Origin.{Origin}
use Rattle.jpa_model.specs.declared.unit.PersistenceUnit.{PersistenceUnit}
use Rattle.jpa_model.specs.declared.unit.Relation.{Relation}
use Rattle.jpa_model.specs.declared.unit.Side.{Side}
use Rattle.jpql_trees.specs.declared.tree.Language.{Language}
use Rattle.jpa_behaviour.specs.declared.Heard.{Heard}
use Rattle.jpa_behaviour.specs.Behaviour.{World}
use Rattle.jpa_stored.specs.declared.objects.stored.Stored.{Stored}
use Rattle.jpa_work.specs.declared.heap.Collection.{Collection}
use Rattle.jpa_work.specs.declared.heap.Held.{Held}
use Rattle.jpa_work.specs.declared.heap.Life.{Life}
use Rattle.jpa_work.specs.declared.heap.Link.{Link}
use Rattle.jpa_work.specs.declared.heap.LiveObject.{LiveObject}
use Rattle.jpa_work.specs.declared.context.Lock.{Lock}
use Rattle.jpa_work.specs.context.Steps.{Done, Refused}
use Rattle.jpa_work.specs.context.Work.{Work}
use Rattle.jpa_flush.specs.flush.Flush.{flush}

-- a boss, friends, and the reports of whom one is the boss
abbrev relation : ℕ → Side → Bool → Relation
relation name side cascades =
    record {
      name = name ∷ [];
      side = side;
      target = 0;
      cascade = record { persist = cascades; merge = false; remove = false; refresh = false; detach = false };
      orphan_removal = false;
    }

abbrev unit : Bool → PersistenceUnit
unit cascades = record {
  revision = 1;
  listeners = [];
  entities =
      record {
        name = 112 ∷ [];
        origin =
            Origin.Root (record {
              table = 1;
              key = record { name = 105 ∷ []; kind = Kind.Int } ∷ [];
              embedded = None;
              generated = false;
              version = Some (record { name = 118 ∷ []; column = 1 });
            });
        discriminator = 112 ∷ [];
        attributes = [];
        relations = relation 98 (Side.ManyToOne (record { column = 2; required = false })) cascades ∷ relation 102 (Side.ManyToMany 2) false ∷ relation 114 (Side.OneToMany 0) false ∷ [];
        listeners = [];
        callbacks = [];
        exclude_default = false;
        exclude_super = false;
      }
      ∷ [];
}

abbrev world : Bool → World
world cascades = record { model = unit cascades; heard = λ name image. Heard.Assign []; column = λ name v. Some v; attribute = λ name v. Some v; language = Language.Profile }

abbrev key : ℕ → List Value
key n = Value.Int (pos n) ∷ []

abbrev id : ℕ → Identity
id n = record { table = 1; key = key n }

abbrev row : ℕ → List Identity → List Identity → Stored
row version boss friends = record { class = 0; version = Some (pos version); values = []; owned = boss ∷ friends ∷ [] ∷ [] }

abbrev person : ℕ → Option ℤ → Link → Collection → Life → LiveObject
person n version boss friends life =
    record { class = 0; key = key n; version = version; values = []; relations = Held.One boss ∷ Held.Many friends ∷ Held.Many (Collection.Fetched []) ∷ []; life = life }

-- person 1 is stored, without a boss and as her own friend; person 2 is new
abbrev work : Link → Lock → Work
work boss lock = record {
  manager = 0;
  objects = person 1 (Some (pos 4)) boss Collection.Unfetched (Life.Managed 0) ∷ person 2 None Link.None (Collection.Fetched []) Life.New ∷ [];
  context =
      record { object = 0; key = key 1; lock = lock; base = Some (record { stored = row 4 [] (id 1 ∷ []); members = Some [] ∷ None ∷ Some [] ∷ [] }) } ∷ [];
  numbers = 1 ∷ [];
  view = (id 1, row 4 [] (id 1 ∷ [])) ∷ [];
  events = [];
}

abbrev told : LifecycleEvent → ℕ → Told
told event object = record { event = event; object = object; ran = [] }

-- person 2 becomes the boss of person 1: he is written too, and her friends stay as they were
with_boss : flush (world true) (work (Link.Object 1) Lock.Unlocked) ≡ Done tt (record {
  manager = 0;
  objects =
      person 1 (Some (pos 5)) (Link.Object 1) Collection.Unfetched (Life.Managed 0) ∷ person 2 (Some (pos 0)) Link.None (Collection.Fetched []) (Life.Managed 0) ∷ [];
  context =
      record { object = 0; key = key 1; lock = Lock.Unlocked; base = Some (record { stored = row 5 (id 2 ∷ []) (id 1 ∷ []); members = Some (id 2 ∷ []) ∷ None ∷ Some [] ∷ [] }) }
      ∷ record { object = 1; key = key 2; lock = Lock.Unlocked; base = Some (record { stored = row 0 [] []; members = Some [] ∷ Some [] ∷ Some [] ∷ [] }) } ∷ [];
  numbers = 1 ∷ [];
  view = (id 1, row 5 (id 2 ∷ []) (id 1 ∷ [])) ∷ (id 2, row 0 [] []) ∷ [];
  events =
      told LifecycleEvent.PrePersist 2 ∷ told LifecycleEvent.PreUpdate 1 ∷ told LifecycleEvent.PostUpdate 1 ∷ told LifecycleEvent.PostPersist 2 ∷ [];
})
with_boss = refl

-- nothing differs, but the lock raises the version, once
raised : flush (world true) (work Link.None Lock.Write) ≡ Done tt (record {
  manager = 0;
  objects = person 1 (Some (pos 5)) Link.None Collection.Unfetched (Life.Managed 0) ∷ person 2 None Link.None (Collection.Fetched []) Life.New ∷ [];
  context = record { object = 0; key = key 1; lock = Lock.Read; base = Some (record { stored = row 5 [] (id 1 ∷ []); members = Some [] ∷ None ∷ Some [] ∷ [] }) } ∷ [];
  numbers = 1 ∷ [];
  view = (id 1, row 5 [] (id 1 ∷ [])) ∷ [];
  events = told LifecycleEvent.PreUpdate 1 ∷ told LifecycleEvent.PostUpdate 1 ∷ [];
})
raised = refl

unchanged : flush (world true) (work Link.None Lock.Read) ≡ Done tt (work Link.None Lock.Read)
unchanged = refl

-- along a relation that doesn't cascade persist the new person is not written
refused : flush (world false) (work (Link.Object 1) Lock.Unlocked) ≡ Refused (Cause.IllegalState State.Reference) []
refused = refl
