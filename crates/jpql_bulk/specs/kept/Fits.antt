-- What the data of a sort are, and what a member of a class can be set to (chapters 4.6.4 and
-- 4.11).
use Rattle.std.specs.Prelude.{◌≡◌, ℕ, Bool, true, false, nat_lt, ◌&&◌, ◌||◌, List, length, slice_get, Option, Some}
use Rattle.std.specs.Prelude.{None, is_some, is_none}
use Rattle.jpa_value.specs.declared.value.Value.{Value}
use Rattle.jpa_value.specs.declared.value.Kind.{Kind}
use Rattle.jpa_value.specs.Value.{is_null}
use Rattle.jpa_model.specs.declared.unit.PersistenceUnit.{PersistenceUnit}
use Rattle.jpa_model.specs.declared.unit.Attribute.{Attribute}
use Rattle.jpa_model.specs.declared.unit.Relation.{Relation}
use Rattle.jpa_model.specs.declared.unit.Member.{Member}
use Rattle.jpa_model.specs.Chains.{entity_at, root_in, root_of, attributes_of, relations_of, is_kind_of, column_of}
use Rattle.jpa_model.specs.WellFormed.{is_some_that}
use Rattle.jpa_behaviour.specs.Behaviour.{World}
use Rattle.jpa_stored.specs.objects.Sets.{each_fits, is_identity_of}
use Rattle.jpql_trees.specs.tree.Names.{Text}
use Rattle.jpql_types.specs.declared.sort.Sort.{Sort}
use Rattle.jpql_meaning.specs.declared.eval.datum.Datum.{Datum}
use Rattle.jpql_meaning.specs.plan.Bulk.{Throws}

-- ---- data of a sort

-- null is of every kind; how long a value is doesn't matter here
abbrev pub is_kind : Kind → Value → Bool
is_kind k Value.Null = true
is_kind Kind.Int (Value.Int n) = true
is_kind Kind.Text (Value.Text bytes) = true
is_kind Kind.Bytes (Value.Bytes bytes) = true
is_kind k v = false

-- a datum is of a sort's kind: null, a value of its kind, or an entity
abbrev pub is_of_sort : Sort → Datum → Bool
is_of_sort Sort.Null (Datum.Plain v) = is_null v
is_of_sort Sort.Null (Datum.Entity id) = false
is_of_sort (Sort.Basic k) (Datum.Plain v) = is_kind k v
is_of_sort (Sort.Basic k) (Datum.Entity id) = false
is_of_sort (Sort.Entity root) (Datum.Plain v) = is_null v
is_of_sort (Sort.Entity root) (Datum.Entity id) = true

-- an entity is named by an identity of the hierarchy
abbrev pub is_named_in : PersistenceUnit → Sort → Datum → Bool
is_named_in m (Sort.Entity root) (Datum.Entity id) = is_identity_of (root_in (entity_at m root).origin) id
is_named_in m (Sort.Entity root) (Datum.Plain v) = true
is_named_in m (Sort.Basic k) d = true
is_named_in m Sort.Null d = true

-- a datum is of a sort; an entity is named by an identity of its hierarchy
abbrev pub is_of : PersistenceUnit → Sort → Datum → Bool
is_of m s d = is_of_sort s d && is_named_in m s d

-- the parameters' data are of the sorts for which a statement was checked
abbrev pub are_of : PersistenceUnit → List (Text × Sort) → List Datum → Bool
are_of m = each_fits (λ p d. is_of m p.1 d)

-- ---- what a member can be set to

-- an entity that a link takes is of its target's hierarchy; a plain value is not asked
abbrev pub takes_link : PersistenceUnit → ℕ → ℕ → Datum → Bool
takes_link m class r (Datum.Plain v) = true
takes_link m class r (Datum.Entity id) =
    is_some_that (λ (relation : Relation). is_some (column_of relation.side)
    && is_identity_of (root_of m relation.target) id) (slice_get (relations_of m class) r)

-- a value that an attribute takes is null or of its kind; an entity is not asked
abbrev pub takes_value : PersistenceUnit → ℕ → ℕ → Datum → Bool
takes_value m class i (Datum.Plain v) =
    is_null v || is_some_that (λ (a : Attribute). is_kind a.kind v) (slice_get (attributes_of m class) i)
takes_value m class i (Datum.Entity id) = true

-- a version is there to be set; an attribute takes null and its kind; an owned relation to one
-- takes null and identities of its target's hierarchy
abbrev pub takes : PersistenceUnit → ℕ → Member → Datum → Bool
takes m class (Member.KeyPart i) d = true
takes m class Member.Version d = is_some (root_of m class).version
takes m class (Member.Attribute i) d = takes_value m class i d
takes m class (Member.Relation r) d = takes_link m class r d

-- ---- converters of a world

-- a converter throws for a value where it makes nothing of it; without one nothing throws
abbrev pub throws_by : World → Option (List ℕ) → Value → Bool
throws_by world None v = false
throws_by world (Some name) v = is_none (world.column name v)

-- an attribute's converter throws where it makes nothing of a value for the column
abbrev pub throws_in : World → Throws
throws_in world a v = throws_by world a.converter v

-- ---- inheritance (chapter 2.12)

-- what a class has, each class below it has in the same place
pub record AreInherited (m : PersistenceUnit) : Type 0 where
  pub roots : (class kind : ℕ) → nat_lt kind (length m.entities) ≡ true → is_kind_of m kind class ≡ true →
      root_of m kind ≡ root_of m class
  pub attributes : (class kind i : ℕ) (a : Attribute) → nat_lt kind (length m.entities) ≡ true →
      is_kind_of m kind class ≡ true →
      slice_get (attributes_of m class) i ≡ Some a → slice_get (attributes_of m kind) i ≡ Some a
  pub relations : (class kind r : ℕ) (relation : Relation) → nat_lt kind (length m.entities) ≡ true →
      is_kind_of m kind class ≡ true →
      slice_get (relations_of m class) r ≡ Some relation → slice_get (relations_of m kind) r ≡ Some relation
