-- Two persons that are stored, of which the second is held and removed: which rows are kept, what is loaded for them and in which
-- order, and why others are refused.
use Rattle.std.specs.Prelude.{◌≡◌, refl, codes, ℕ, pos, false, List, [], ◌∷◌, Some, None}
use Rattle.jpa_value.specs.declared.value.Value.{Value}
use Rattle.jpa_value.specs.declared.value.Kind.{Kind}
use Rattle.jpa_value.specs.declared.value.Identity.{Identity}
use Rattle.jpa_value.specs.declared.event.LifecycleEvent.{LifecycleEvent}
use Rattle.jpa_value.specs.declared.refusal.Cause.{Cause}
use Rattle.jpa_protocol.specs.declared.reply.Item.{Item}
use Rattle.jpa_model.specs.declared.unit.Origin.{Origin}
use Rattle.jpa_model.specs.declared.unit.PersistenceUnit.{PersistenceUnit}
use Rattle.jpql_trees.specs.declared.tree.Language.{Language}
use Rattle.jpa_behaviour.specs.declared.Heard.{Heard}
use Rattle.jpa_behaviour.specs.Behaviour.{World}
use Rattle.jpa_stored.specs.declared.objects.stored.Stored.{Stored}
use Rattle.jpa_work.specs.declared.heap.Handed.{Handed}
use Rattle.jpa_work.specs.declared.heap.Life.{Life}
use Rattle.jpa_work.specs.declared.heap.LiveObject.{LiveObject}
use Rattle.jpa_work.specs.declared.context.Entry.{Entry}
use Rattle.jpa_work.specs.declared.context.Lock.{Lock}
use Rattle.jpa_work.specs.context.Steps.{Done, Refused}
use Rattle.jpa_work.specs.context.Work.{Work}
use Rattle.jpa_operations.specs.fetch.Members.{collect}
use Rattle.jpql_types.specs.declared.sort.Sort.{Sort}
use Rattle.jpql_meaning.specs.declared.eval.datum.Datum.{Datum}
use Rattle.jpa_asked.specs.declared.asked.Binding.{Binding}
use Rattle.jpa_asked.specs.Asking.{sorts_of, arguments_of}
use Rattle.jpa_queries.specs.Queries.{cut, row_of, single_row}

-- persons with a name
abbrev unit : PersistenceUnit
unit = record {
  revision = 1;
  listeners = [];
  entities =
      record {
        name = codes "Person";
        origin = Origin.Root (record { table = 1; key = record { name = codes "id"; kind = Kind.Int } ∷ []; embedded = None; generated = false; version = None });
        discriminator = codes "Person";
        attributes = record { name = codes "name"; kind = Kind.Text; column = 2; required = false; converter = None } ∷ [];
        relations = [];
        listeners = [];
        callbacks = [];
        exclude_default = false;
        exclude_super = false;
      }
      ∷ [];
}

abbrev world : World
world = record { model = unit; heard = λ name image. Heard.Assign []; column = λ name v. Some v; attribute = λ name v. Some v; language = Language.Profile }

abbrev id : ℕ → Identity
id n = record { table = 1; key = Value.Int (pos n) ∷ [] }

abbrev stored : ℕ → Stored
stored letter = record { class = 0; version = None; values = Value.Text (letter ∷ []) ∷ []; owned = [] }

abbrev live : List Value → ℕ → Life → LiveObject
live key letter life = record { class = 0; key = key; version = None; values = Value.Text (letter ∷ []) ∷ []; relations = []; life = life }

abbrev entry : ℕ → ℕ → ℕ → Entry
entry object n letter = record { object = object; key = (id n).key; lock = Lock.Unlocked; base = Some (record { stored = stored letter; members = [] }) }

-- person 2 is object 1, and object 2 is new, without a key
abbrev work : Work
work = record {
  manager = 0;
  objects = live ((id 2).key) 66 (Life.Removed 0) ∷ live (Value.Null ∷ []) 67 Life.New ∷ [];
  context = entry 0 2 66 ∷ [];
  numbers = 1 ∷ [];
  view = (id 1, stored 65) ∷ (id 2, stored 66) ∷ [];
  events = [];
}

abbrev loaded : Work
loaded = record work {
  objects = live ((id 2).key) 66 (Life.Removed 0) ∷ live (Value.Null ∷ []) 67 Life.New ∷ live ((id 1).key) 65 (Life.Managed 0) ∷ [];
  context = entry 0 2 66 ∷ entry 2 1 65 ∷ [];
  events = record { event = LifecycleEvent.PostLoad; object = 3; ran = [] } ∷ [];
}

-- ---- the cut

second_alone : cut {A = ℕ} (Some (pos 1)) (Some (pos 1)) (65 ∷ 66 ∷ 67 ∷ []) ≡ 66 ∷ []
second_alone = refl

none_kept : cut {A = ℕ} None (Some (pos 0)) (65 ∷ 66 ∷ []) ≡ []
none_kept = refl

-- ---- results

-- a removed instance is answered as it is; person 1 is loaded once
in_order : collect (row_of world) ((Datum.Entity (id 2) ∷ []) ∷ (Datum.Plain (Value.Int (pos 7)) ∷ Datum.Entity (id 1) ∷ []) ∷ (Datum.Entity (id 1) ∷ []) ∷ []) work
    ≡ Done ((Item.Object 1 ∷ []) ∷ (Item.Value (Value.Int (pos 7)) ∷ Item.Object 3 ∷ []) ∷ (Item.Object 3 ∷ []) ∷ []) loaded
in_order = refl

-- what stands nowhere is refused in its turn, once person 1 is loaded
nowhere : collect (row_of world) ((Datum.Entity (id 1) ∷ Datum.Entity (id 9) ∷ []) ∷ []) work ≡ Refused Cause.EntityNotFound loaded.events
nowhere = refl

-- nothing is loaded where the result is not unique
several : single_row world ((Datum.Entity (id 1) ∷ []) ∷ (Datum.Entity (id 9) ∷ []) ∷ []) work ≡ Refused Cause.NonUniqueResult []
several = refl

missing : single_row world [] work ≡ Refused Cause.NoResult []
missing = refl

-- ---- parameters

abbrev bound : ℕ → List Binding
bound object = record { name = codes "p"; value = Handed.Object object } ∷ record { name = codes "1"; value = Handed.Plain Value.Null } ∷ []

by_sorts : sorts_of unit (bound 1) work ≡ (codes "p", Sort.Entity 0) ∷ (codes "1", Sort.Null) ∷ []
by_sorts = refl

by_identity : arguments_of unit (bound 0) work ≡ Some (Datum.Entity (id 2) ∷ Datum.Plain Value.Null ∷ [])
by_identity = refl

keyless : arguments_of unit (bound 1) work ≡ None
keyless = refl
