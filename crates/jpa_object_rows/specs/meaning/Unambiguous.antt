-- What the laws ask of a metamodel: tables, discriminators and columns tell roots, classes and what
-- classes have apart.
use Rattle.std.specs.Prelude.{◌≡◌, ℕ, pos, Bool, true, ◌==◌, ◌||◌, nat_lt, List, [], ◌∷◌, ◌++◌, map, length, Some}
use Rattle.std.specs.Prelude.{Option, None}
use Rattle.std.specs.List.{flat_map, AllByRecursion}
use Rattle.jpa_value.specs.Value.{is_i64}
use Rattle.jpa_model.specs.declared.unit.Column.{Column}
use Rattle.jpa_model.specs.declared.unit.PersistenceUnit.{PersistenceUnit}
use Rattle.jpa_model.specs.declared.unit.Relation.{Relation}
use Rattle.jpa_model.specs.declared.unit.VersionColumn.{VersionColumn}
use Rattle.jpa_model.specs.Chains.{attributes_of, relations_of, root_of, entity_at, column_of, is_kind_of}
use Rattle.jpa_stored.specs.objects.Sets.{all_distinct}
use Rattle.jpa_rows.specs.rows.Cells.{join_tables, tables_of}
use Rattle.jpa_object_rows.specs.meaning.Identities.{root_at, is_join_of}
use Rattle.jpa_object_rows.specs.meaning.Written.{class_bytes}
use Rattle.jpa_object_rows.specs.meaning.View.{class_in}

-- whether no number stands twice
abbrev pub are_distinct_numbers : List ℕ → Bool
are_distinct_numbers = all_distinct (λ a b. a == b)

-- whether a number is the place of an entity
abbrev pub is_class : PersistenceUnit → ℕ → Bool
is_class m class = nat_lt class (length m.entities)

-- the column of a version, where there is one
abbrev pub version_columns : Option VersionColumn → List ℕ
version_columns None = []
version_columns (Some v) = v.column ∷ []

-- the column of a link, where there is one
abbrev pub link_columns : Option Column → List ℕ
link_columns None = []
link_columns (Some c) = c.column ∷ []

-- the columns of a class's rows: that of the discriminator, then those of version, attributes and
-- links
abbrev pub columns_along : PersistenceUnit → ℕ → List ℕ
columns_along m class =
    0 ∷ version_columns (root_of m class).version
    ++ map (λ a. a.column) (attributes_of m class)
    ++ flat_map (λ r. link_columns (column_of r.side)) (relations_of m class)

-- the join tables of these relations
abbrev pub joins_of : List Relation → List ℕ
joins_of = flat_map (λ r. join_tables r.side)

-- a unit whose tables, discriminators and columns tell apart what they stand for
pub record IsUnambiguous (m : PersistenceUnit) : Type 0 where
  -- the row of the revision says 2, where there is one
  pub revision : (m.revision == 1 || m.revision == 2) ≡ true
  -- no table stands for two things, table 0 for next numbers alone
  pub tables : are_distinct_numbers (tables_of m) ≡ true
  -- each is an integer of the program, as the key of its next number's row
  pub small : AllByRecursion (λ table. is_i64 (pos table) ≡ true) (tables_of m)
  -- a root's table names it
  pub root : (class : ℕ) → is_class m class ≡ true → root_at m (root_of m class).table ≡ Some (root_of m class)
  -- a class has the root of each class above it
  pub kinds : (class above : ℕ) → is_class m class ≡ true → is_kind_of m class above ≡ true →
      root_of m class ≡ root_of m above
  -- a discriminator names a class of its hierarchy
  pub discriminator : (class : ℕ) → is_class m class ≡ true →
      class_in m (root_of m class).table (Some (class_bytes (entity_at m class))) ≡ class
  -- no column of a class stands for two things
  pub columns : (class : ℕ) → is_class m class ≡ true → are_distinct_numbers (columns_along m class) ≡ true
  -- the join tables of a class are of its hierarchy, each of one relation
  pub joins : (class : ℕ) → is_class m class ≡ true →
      AllByRecursion (λ join. is_join_of m join (root_of m class).table ≡ true) (joins_of (relations_of m class))
  pub relations : (class : ℕ) → is_class m class ≡ true → are_distinct_numbers (joins_of (relations_of m class)) ≡ true
