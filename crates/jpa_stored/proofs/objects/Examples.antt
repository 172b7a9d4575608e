-- Persons and orders: a sound set, and what makes it unsound.
use Rattle.std.specs.Prelude.{◌≡◌, refl, ℕ, true, false, pos, List, [], ◌∷◌, Some, None}
use Rattle.jpa_value.specs.declared.value.Value.{Value}
use Rattle.jpa_value.specs.declared.value.Kind.{Kind}
use Rattle.jpa_value.specs.declared.value.Identity.{Identity}
use Rattle.jpa_value.specs.declared.refusal.PersistenceFault.{PersistenceFault}
use Rattle.jpa_model.specs.declared.unit.Attribute.{Attribute}
use Rattle.jpa_model.specs.declared.unit.Entity.{Entity}
use Rattle.jpa_model.specs.declared.unit.Origin.{Origin}
use Rattle.jpa_model.specs.declared.unit.PersistenceUnit.{PersistenceUnit}
use Rattle.jpa_model.specs.declared.unit.Relation.{Relation}
use Rattle.jpa_model.specs.declared.unit.Side.{Side}
use Rattle.jpa_model.specs.Chains.{no_cascade}
use Rattle.jpa_stored.specs.declared.objects.stored.Stored.{Stored}
use Rattle.jpa_stored.specs.objects.Sets.{StoredSet, with_stored, without, stored_at, members_of, fault_of, all_shaped}

abbrev root : ℕ → Origin
root table = Origin.Root (record { table = table; key = record { name = 105 ∷ []; kind = Kind.Int } ∷ []; embedded = None; generated = false; version = None })

abbrev class : ℕ → List Attribute → List Relation → Entity
class table attributes relations = record {
  name = table ∷ [];
  origin = root table;
  discriminator = table ∷ [];
  attributes = attributes;
  relations = relations;
  listeners = [];
  callbacks = [];
  exclude_default = false;
  exclude_super = false;
}

-- a person with a name and orders, an order with a person
abbrev unit : PersistenceUnit
unit = record {
  revision = 1;
  listeners = [];
  entities =
      class 1 (record { name = 110 ∷ []; kind = Kind.Text; column = 1; required = true; converter = None } ∷ [])
      (record { name = 111 ∷ []; side = Side.OneToMany 0; target = 1; cascade = no_cascade; orphan_removal = false } ∷ [])
      ∷ class 2 [] (record { name = 112 ∷ []; side = Side.ManyToOne (record { column = 1; required = false }); target = 0; cascade = no_cascade; orphan_removal = false } ∷ [])
      ∷ [];
}

abbrev name : ℕ → ℕ → Identity
name table n = record { table = table; key = Value.Int (pos n) ∷ [] }

abbrev person : Value → Stored
person v = record { class = 0; version = None; values = v ∷ []; owned = [] ∷ [] }

abbrev order : List Identity → Stored
order ids = record { class = 1; version = None; values = []; owned = ids ∷ [] }

abbrev set : StoredSet
set = with_stored (name 1 1) (person (Value.Text (65 ∷ []))) (with_stored (name 2 8) (order (name 1 1 ∷ [])) (with_stored (name 2 7) (order (name 1 1 ∷ [])) []))

shaped : all_shaped unit set ≡ true
shaped = refl

sound : fault_of unit set ≡ None
sound = refl

orders_of_one : members_of unit set 0 (name 1 1) (stored_at set (name 1 1)) 0 ≡ name 2 7 ∷ name 2 8 ∷ []
orders_of_one = refl

no_name : fault_of unit (with_stored (name 1 2) (person Value.Null) set) ≡ Some PersistenceFault.Null
no_name = refl

dangling : fault_of unit (without (name 1 1 ∷ []) set) ≡ Some PersistenceFault.Reference
dangling = refl

-- the null is told first
both : fault_of unit (with_stored (name 1 2) (person Value.Null) (without (name 1 1 ∷ []) set)) ≡ Some PersistenceFault.Null
both = refl
