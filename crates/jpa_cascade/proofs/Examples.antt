-- Persons and their friends: what cascades reach, in circles too.
use Rattle.std.specs.Prelude.{◌≡◌, refl, ℕ, zero, suc, true, false, pos, List, [], ◌∷◌, None}
use Rattle.jpa_value.specs.declared.value.Value.{Value}
use Rattle.jpa_value.specs.declared.value.Kind.{Kind}
use Rattle.jpa_value.specs.declared.value.Identity.{Identity}
use Rattle.jpa_model.specs.declared.unit.Origin.{Origin}
use Rattle.jpa_model.specs.declared.unit.PersistenceUnit.{PersistenceUnit}
use Rattle.jpa_model.specs.declared.unit.Side.{Side}
use Rattle.jpa_stored.specs.declared.objects.stored.Stored.{Stored}
use Rattle.jpa_work.specs.declared.heap.Collection.{Collection}
use Rattle.jpa_work.specs.declared.heap.Held.{Held}
use Rattle.jpa_work.specs.declared.heap.Life.{Life}
use Rattle.jpa_work.specs.declared.heap.LiveObject.{LiveObject}
use Rattle.jpa_work.specs.declared.context.Lock.{Lock}
use Rattle.jpa_work.specs.context.Work.{Work}
use Rattle.jpa_cascade.specs.declared.Operation.{Operation}
use Rattle.jpa_cascade.specs.declared.Node.{Node}
use Rattle.jpa_cascade.specs.Waves.{waves, waves_by}

-- ---- a bound that is met cuts the cascade off

around : Node → List Node
around (Node.Live zero) = Node.Live 1 ∷ []
around (Node.Live (suc zero)) = Node.Live 2 ∷ []
around (Node.Live (suc (suc n))) = Node.Live 0 ∷ []
around (Node.Bare id) = []

whole : waves_by around 3 [] (Node.Live 0 ∷ []) ≡ Node.Live 0 ∷ Node.Live 1 ∷ Node.Live 2 ∷ []
unfolding around
whole = refl

cut_off : waves_by around 1 [] (Node.Live 0 ∷ []) ≡ Node.Live 0 ∷ Node.Live 1 ∷ []
unfolding around
cut_off = refl

-- ---- persons

-- persist and remove go on to friends
abbrev unit : PersistenceUnit
unit = record {
  revision = 1;
  listeners = [];
  entities = record {
    name = 112 ∷ [];
    origin = Origin.Root (record { table = 1; key = record { name = 105 ∷ []; kind = Kind.Int } ∷ []; embedded = None; generated = false; version = None });
    discriminator = 112 ∷ [];
    attributes = [];
    relations = record {
      name = 102 ∷ [];
      side = Side.ManyToMany 2;
      target = 0;
      cascade = record { persist = true; merge = false; remove = true; refresh = false; detach = false };
      orphan_removal = false;
    } ∷ [];
    listeners = [];
    callbacks = [];
    exclude_default = false;
    exclude_super = false;
  } ∷ [];
}

abbrev id : ℕ → Identity
id n = record { table = 1; key = Value.Int (pos n) ∷ [] }

abbrev person : ℕ → Collection → LiveObject
person n friends = record { class = 0; key = Value.Int (pos n) ∷ []; version = None; values = []; relations = Held.Many friends ∷ []; life = Life.Managed 0 }

abbrev stored : List Identity → Stored
stored friends = record { class = 0; version = None; values = []; owned = friends ∷ [] }

-- 0 knows 1 and 2, who both know 3, who knows 0; nobody knows 4. In the view the fifth, 14, knows 15 and 16, who knows 14
abbrev work : Work
work = record {
  manager = 0;
  objects =
      person 10 (Collection.Fetched (1 ∷ 2 ∷ [])) ∷ person 11 (Collection.Fetched (3 ∷ [])) ∷ person 12 (Collection.Fetched (3 ∷ 3 ∷ []))
      ∷ person 13 (Collection.Fetched (0 ∷ [])) ∷ person 14 Collection.Unfetched ∷ [];
  context = record { object = 4; key = Value.Int (pos 14) ∷ []; lock = Lock.Unlocked; base = None } ∷ [];
  numbers = [];
  view = (id 14, stored (id 15 ∷ id 16 ∷ [])) ∷ (id 15, stored []) ∷ (id 16, stored (id 14 ∷ [])) ∷ [];
  events = [];
}

persisted : waves unit Operation.Persist work 0 ≡ Node.Live 0 ∷ Node.Live 1 ∷ Node.Live 2 ∷ Node.Live 3 ∷ []
persisted = refl

-- no relation has it
refreshed : waves unit Operation.Refresh work 0 ≡ Node.Live 0 ∷ []
refreshed = refl

-- what was not read is reached by a removal alone
removed : waves unit Operation.Remove work 4 ≡ Node.Live 4 ∷ Node.Bare (id 15) ∷ Node.Bare (id 16) ∷ []
removed = refl

not_read : waves unit Operation.Persist work 4 ≡ Node.Live 4 ∷ []
not_read = refl
