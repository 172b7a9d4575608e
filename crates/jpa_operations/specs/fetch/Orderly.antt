-- What the laws ask of a unit: of its roots and keys, and of where its relations lead (Jakarta
-- Persistence 3.1, chapters 2.9, 2.12: a relation is of a class and of its subclasses, and leads to
-- a class or its subclasses, whose keys are one root's).
use Rattle.std.specs.Prelude.{◌≡◌, ℕ, pos, true, ◌==◌, nat_lt, [], ◌∷◌, length, Some, slice_get}
use Rattle.jpa_value.specs.declared.value.Value.{Value}
use Rattle.jpa_model.specs.declared.unit.PersistenceUnit.{PersistenceUnit}
use Rattle.jpa_model.specs.declared.unit.Relation.{Relation}
use Rattle.jpa_model.specs.Chains.{relations_of, root_of, root_class, is_kind_of, is_held_by}
use Rattle.jpa_stored.specs.objects.Sets.{is_key_of}

-- a unit whose roots, keys and relations are as the laws of operations ask
pub record IsOrderly (m : PersistenceUnit) : Type 0 where
  -- a class's root is an entity
  pub rooted : (class : ℕ) → nat_lt class (length m.entities) ≡ true → nat_lt (root_class m class) (length m.entities)
      ≡ true
  -- an integer is a whole generated key
  pub generated : (class k : ℕ) → (root_of m class).generated ≡ true → is_key_of (root_of m class)
      (Value.Int (pos k) ∷ []) ≡ true
  -- a class to which a relation leads has the root of each of its subclasses
  pub kinds : (class r : ℕ) (relation : Relation) → slice_get (relations_of m class) r ≡ Some relation →
      (kind : ℕ) → nat_lt kind (length m.entities) ≡ true → is_kind_of m kind relation.target ≡ true →
      root_of m kind ≡ root_of m relation.target
  -- its table names its root
  pub tables : (class r : ℕ) (relation : Relation) → slice_get (relations_of m class) r ≡ Some relation →
      (other : ℕ) → nat_lt other (length m.entities) ≡ true →
      ((root_of m other).table == (root_of m relation.target).table) ≡ true →
      root_of m other ≡ root_of m relation.target
  -- a relation at a place of a class stands at that place of each class that holds it
  pub places : (class r : ℕ) (relation : Relation) → slice_get (relations_of m class) r ≡ Some relation →
      (other : ℕ) → nat_lt other (length m.entities) ≡ true → is_held_by m class r other ≡ true →
      slice_get (relations_of m other) r ≡ Some relation
