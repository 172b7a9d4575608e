-- Persons, employees among them, orders and passports: what is asked where a sound set was changed.
use Rattle.std.specs.Prelude.{◌≡◌, refl, ℕ, true, false, pos, T, List, [], ◌∷◌, Option, Some, None}
use Rattle.std.specs.FinMap.Entries.{is_sorted}
use Rattle.jpa_value.specs.declared.value.Value.{Value}
use Rattle.jpa_value.specs.declared.value.Kind.{Kind}
use Rattle.jpa_value.specs.declared.value.Identity.{Identity}
use Rattle.jpa_value.specs.declared.refusal.PersistenceFault.{PersistenceFault}
use Rattle.jpa_value.specs.Value.{identity_cmp}
use Rattle.jpa_model.specs.declared.unit.Attribute.{Attribute}
use Rattle.jpa_model.specs.declared.unit.Entity.{Entity}
use Rattle.jpa_model.specs.declared.unit.Origin.{Origin}
use Rattle.jpa_model.specs.declared.unit.PersistenceUnit.{PersistenceUnit}
use Rattle.jpa_model.specs.declared.unit.Relation.{Relation}
use Rattle.jpa_model.specs.declared.unit.Side.{Side}
use Rattle.jpa_model.specs.Chains.{no_cascade}
use Rattle.jpa_stored.specs.declared.objects.stored.Stored.{Stored}
use Rattle.jpa_stored.specs.objects.Sets.{StoredSet, with_stored, without, fault_of, all_shaped}
use Rattle.jpa_constraints.specs.declared.change.Change.{Change}
use Rattle.jpa_constraints.specs.Changed.{class_at, is_changed, IsChangedFrom}
use Rattle.jpa_constraints.specs.Judged.{fills, leads, keeps_class, is_alone, links_apart, fault_at}
use Rattle.jpa_constraints.proofs.Steps.{unchanged, put_next, taken_next}

abbrev root : ℕ → Origin
root table = Origin.Root (record { table = table; key = record { name = 105 ∷ []; kind = Kind.Int } ∷ []; embedded = None; generated = false; version = None })

abbrev class : ℕ → Origin → List Attribute → List Relation → Entity
class mark origin attributes relations = record {
  name = mark ∷ [];
  origin = origin;
  discriminator = mark ∷ [];
  attributes = attributes;
  relations = relations;
  listeners = [];
  callbacks = [];
  exclude_default = false;
  exclude_super = false;
}

abbrev relation : ℕ → Side → ℕ → Relation
relation mark side target = record { name = mark ∷ []; side = side; target = target; cascade = no_cascade; orphan_removal = false }

-- a person with a name; an order with a person and an employee who takes it; a passport with a person, who has no other;
-- an employee, who is a person
abbrev unit : PersistenceUnit
unit = record {
  revision = 1;
  listeners = [];
  entities =
      class 1 (root 1) (record { name = 110 ∷ []; kind = Kind.Text; column = 1; required = true; converter = None } ∷ []) []
      ∷ class 2 (root 2) [] (relation 112 (Side.ManyToOne (record { column = 1; required = false })) 0 ∷ relation 113 (Side.ManyToOne (record { column = 2; required = false })) 3 ∷ [])
      ∷ class 3 (root 3) [] (relation 114 (Side.OneToOne (record { column = 7; required = true })) 0 ∷ [])
      ∷ class 4 (Origin.Extends 0) [] []
      ∷ [];
}

abbrev name : ℕ → ℕ → Identity
name table n = record { table = table; key = Value.Int (pos n) ∷ [] }

abbrev person : Stored
person = record { class = 0; version = None; values = Value.Text (65 ∷ []) ∷ []; owned = [] }

abbrev employee : Stored
employee = record { class = 3; version = None; values = Value.Text (66 ∷ []) ∷ []; owned = [] }

abbrev unnamed : Stored
unnamed = record { class = 0; version = None; values = Value.Null ∷ []; owned = [] }

abbrev order : List Identity → List Identity → Stored
order persons employees = record { class = 1; version = None; values = []; owned = persons ∷ employees ∷ [] }

abbrev passport : List Identity → Stored
passport persons = record { class = 2; version = None; values = []; owned = persons ∷ [] }

-- two persons, of whom the second is an employee, the order of the first that the second takes, the passport of the first
abbrev set : StoredSet
set =
    with_stored (name 1 1) person
    (with_stored (name 1 2) employee (with_stored (name 2 1) (order (name 1 1 ∷ []) (name 1 2 ∷ [])) (with_stored (name 3 1) (passport (name 1 1 ∷ [])) [])))

shaped : all_shaped unit set ≡ true
shaped = refl

sound : fault_of unit set ≡ None
sound = refl

abbrev at : Identity → Option ℕ → Change
at id before = record { id = record { ref_ptr = (0, 0); now = id }; class_before = before }

class_of_employee : class_at set (name 1 2) ≡ Some 3
class_of_employee = refl

here : is_changed (at (name 1 1) (Some 0) ∷ []) (name 1 1) ≡ true
here = refl

elsewhere : is_changed (at (name 1 1) (Some 0) ∷ []) (name 1 2) ≡ false
elsewhere = refl

-- ---- null

no_name : fills unit (with_stored (name 1 3) unnamed set) (at (name 1 3) None) ≡ false
no_name = refl

no_person : fills unit (with_stored (name 3 2) (passport []) set) (at (name 3 2) None) ≡ false
no_person = refl

-- ---- reference

-- the person goes, the order stays
dangling : leads unit (without (name 1 1 ∷ []) set) (at (name 1 1) (Some 0)) ≡ false
dangling = refl

-- the order goes
gone : leads unit (without (name 2 1 ∷ []) set) (at (name 2 1) (Some 1)) ≡ true
gone = refl

-- an order of nobody who is there
of_nobody : leads unit (with_stored (name 2 2) (order (name 1 9 ∷ []) []) set) (at (name 2 2) None) ≡ false
of_nobody = refl

-- the employee becomes a person, who takes no orders
demoted : leads unit (with_stored (name 1 2) person set) (at (name 1 2) (Some 3)) ≡ false
demoted = refl

-- the person becomes an employee
promoted : leads unit (with_stored (name 1 1) employee set) (at (name 1 1) (Some 0)) ≡ true
promoted = refl

new_row : keeps_class None (Some 0) ≡ true
new_row = refl

-- ---- unique

-- a second passport of the first person, which the change alone does not have
second_passport : is_alone unit (with_stored (name 3 2) (passport (name 1 1 ∷ [])) set) (at (name 3 2) None) ≡ false
second_passport = refl

other_passport : is_alone unit (with_stored (name 3 2) (passport (name 1 2 ∷ [])) set) (at (name 3 2) None) ≡ true
other_passport = refl

-- a second order of the first person
second_order : is_alone unit (with_stored (name 2 2) (order (name 1 1 ∷ []) []) set) (at (name 2 2) None) ≡ true
second_order = refl

same_column : links_apart ((relation 114 (Side.OneToOne (record { column = 7; required = true })) 0, name 1 1 ∷ []) ∷ (relation 115 (Side.OneToOne (record { column = 7; required = true })) 0, name 1 1 ∷ []) ∷ []) ≡ false
same_column = refl

other_column : links_apart ((relation 114 (Side.OneToOne (record { column = 7; required = true })) 0, name 1 1 ∷ []) ∷ (relation 115 (Side.OneToOne (record { column = 8; required = true })) 0, name 1 1 ∷ []) ∷ []) ≡ true
other_column = refl

-- ---- the first fault

-- the person goes, and another has no name: the null is told first
abbrev both : StoredSet
both = with_stored (name 1 3) unnamed (without (name 1 1 ∷ []) set)

abbrev changes : List Change
changes = at (name 1 1) (Some 0) ∷ at (name 1 3) None ∷ []

null_first : fault_at unit both changes ≡ Some PersistenceFault.Null
null_first = refl

of_the_set : fault_of unit both ≡ Some PersistenceFault.Null
of_the_set = refl

-- the person goes, and the passport of nobody comes twice: the reference is told first
reference_first : fault_at unit (with_stored (name 3 2) (passport (name 1 1 ∷ [])) (without (name 1 1 ∷ []) set)) (at (name 1 1) (Some 0) ∷ at (name 3 2) None ∷ []) ≡ Some PersistenceFault.Reference
reference_first = refl

-- the person goes with the order and the passport
all_gone : fault_at unit (without (name 1 1 ∷ name 2 1 ∷ name 3 1 ∷ []) set) (at (name 1 1) (Some 0) ∷ at (name 2 1) (Some 1) ∷ at (name 3 1) (Some 2) ∷ []) ≡ None
all_gone = refl

-- what leads to what went is not told without the change there
not_told : fault_at unit (without (name 1 1 ∷ []) set) [] ≡ None
not_told = refl

rising : T (is_sorted identity_cmp set)
rising = tt

changed : IsChangedFrom unit set changes both
changed =
    put_next unit set (at (name 1 1) (Some 0) ∷ []) (at (name 1 3) None) (without (name 1 1 ∷ []) set) (taken_next unit set [] (at (name 1 1) (Some 0)) set (unchanged unit set rising sound) refl refl)
    refl refl unnamed
