-- The tables and columns that a unit names: table 0 for next numbers, the tables of its roots, its
-- join tables (Jakarta Persistence 3.1, chapters 2.10 to 2.12).
use Rattle.std.specs.Prelude.{ℕ, ◌==◌, List, [], ◌∷◌, ◌++◌, map, filter, Option, Some, None}
use Rattle.std.specs.List.{flat_map, range_with_len}
use Rattle.std.specs.Prelude.{length}
use Rattle.jpa_value.specs.declared.value.Kind.{Kind}
use Rattle.jpa_model.specs.declared.unit.Root.{Root}
use Rattle.jpa_model.specs.declared.unit.Attribute.{Attribute}
use Rattle.jpa_model.specs.declared.unit.Column.{Column}
use Rattle.jpa_model.specs.declared.unit.Entity.{Entity}
use Rattle.jpa_model.specs.declared.unit.Origin.{Origin}
use Rattle.jpa_model.specs.declared.unit.PersistenceUnit.{PersistenceUnit}
use Rattle.jpa_model.specs.declared.unit.Relation.{Relation}
use Rattle.jpa_model.specs.declared.unit.Side.{Side}
use Rattle.jpa_model.specs.declared.unit.VersionColumn.{VersionColumn}
use Rattle.jpa_model.specs.Chains.{entity_at, root_of, root_class, column_of}
use Rattle.jpa_rows.specs.declared.rows.schema.Holds.{Holds}
use Rattle.jpa_rows.specs.declared.rows.schema.ColumnRule.{ColumnRule}
use Rattle.jpa_rows.specs.declared.rows.schema.TableRule.{TableRule}
use Rattle.jpa_rows.specs.declared.rows.schema.Schema.{Schema}

-- the rule of a column
abbrev pub rule : ℕ → Holds → ColumnRule
rule column holds = record { column = column; holds = holds }

-- the kinds of a root's key parts
abbrev pub kinds_of : Root → List Kind
kinds_of root = map (λ part. part.kind) root.key

-- ---- the columns of a hierarchy: that of the discriminator, then those of all its classes

-- the rule of a version's column, where there is one
abbrev pub version_rules : Option VersionColumn → List ColumnRule
version_rules None = []
version_rules (Some v) = rule v.column (Holds.Kind Kind.Int) ∷ []

-- what a converter makes is of any kind
abbrev pub attribute_rule : Attribute → ColumnRule
attribute_rule a = rule a.column (holds a.converter)
  where
    holds : Option (List ℕ) → Holds
    holds None = Holds.Kind a.kind
    holds (Some name) = Holds.Any

-- the rule of a link's column, which holds keys of the target, where there is one
abbrev pub link_rules : PersistenceUnit → ℕ → Option Column → List ColumnRule
link_rules m target None = []
link_rules m target (Some c) = rule c.column (Holds.Reference (kinds_of (root_of m target))) ∷ []

-- the rules of the columns that a class declares
abbrev pub rules_of_class : PersistenceUnit → Entity → List ColumnRule
rules_of_class m e =
    map attribute_rule e.attributes ++ flat_map (λ r. link_rules m r.target (column_of r.side)) e.relations

-- the places of the classes
abbrev pub classes : PersistenceUnit → List ℕ
classes m = range_with_len 0 (length m.entities)

-- the classes of a root's hierarchy
abbrev pub classes_below : PersistenceUnit → ℕ → List ℕ
classes_below m root = filter (λ class. root_class m class == root) (classes m)

-- the rules of the columns of a hierarchy's table
abbrev pub rules_of : PersistenceUnit → ℕ → Root → List ColumnRule
rules_of m class root = rule 0 (Holds.Kind Kind.Text) ∷ version_rules root.version
    ++ flat_map (λ c. rules_of_class m (entity_at m c)) (classes_below m class)

-- ---- tables

-- the rule of a row that holds one integer, in column 0
abbrev pub one_number : List ColumnRule
one_number = rule 0 (Holds.Kind Kind.Int) ∷ []

-- table 0, which has the next numbers
abbrev pub next_numbers : TableRule
next_numbers = record { table = 0; key = Kind.Int ∷ []; columns = one_number }

-- the table of a root; other classes have none of their own
abbrev pub root_table : PersistenceUnit → ℕ → Origin → List TableRule
root_table m class (Origin.Root root) =
    record { table = root.table; key = kinds_of root; columns = rules_of m class root } ∷ []
root_table m class (Origin.Extends parent) = []

-- a pair's row is named by the owner's key and then the target's
abbrev pub join_table : PersistenceUnit → ℕ → Relation → List TableRule
join_table m class r = of r.side
  where
    of : Side → List TableRule
    of (Side.ManyToMany join) =
        record { table = join; key = kinds_of (root_of m class) ++ kinds_of (root_of m r.target); columns = one_number }
        ∷ []
    of _ = []

-- the tables that a class declares: its own as a root, and join tables
abbrev pub tables_of_class : PersistenceUnit → ℕ → List TableRule
tables_of_class m class =
    let e = entity_at m class in
    root_table m class e.origin ++ flat_map (join_table m class) e.relations

-- the schema of a unit: table 0, and the tables that its classes declare
abbrev pub schema_of : PersistenceUnit → Schema
schema_of m = record { tables = next_numbers ∷ flat_map (tables_of_class m) (classes m) }
