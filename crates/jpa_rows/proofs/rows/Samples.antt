-- Worked examples: rows and their cells, and the tables of a unit.
use Rattle.std.specs.Prelude.{codes, ◌≡◌, refl, ℕ, ℤ, pos, false, List, [], ◌∷◌, Option, Some, None}
use Rattle.std.specs.Str.{is_utf8, chars}
use Rattle.jpa_value.specs.declared.value.Value.{Value}
use Rattle.jpa_value.specs.declared.value.Kind.{Kind}
use Rattle.jpa_model.specs.declared.unit.Attribute.{Attribute}
use Rattle.jpa_model.specs.declared.unit.Entity.{Entity}
use Rattle.jpa_model.specs.declared.unit.Part.{Part}
use Rattle.jpa_model.specs.declared.unit.Origin.{Origin}
use Rattle.jpa_model.specs.declared.unit.PersistenceUnit.{PersistenceUnit}
use Rattle.jpa_model.specs.declared.unit.Relation.{Relation}
use Rattle.jpa_model.specs.declared.unit.Side.{Side}
use Rattle.jpa_model.specs.declared.unit.VersionColumn.{VersionColumn}
use Rattle.jpa_model.specs.Chains.{no_cascade}
use Rattle.jpa_rows.specs.declared.rows.row.Content.{Content}
use Rattle.jpa_rows.specs.declared.rows.schema.Holds.{Holds}
use Rattle.jpa_rows.specs.declared.rows.schema.TableRule.{TableRule}
use Rattle.jpa_rows.specs.rows.Rows.{Row, content_bytes, is_key, may_hold, SpellsRow, SpellsId}
use Rattle.jpa_rows.specs.rows.Reading.{field}
use Rattle.jpa_rows.specs.rows.Tables.{rule, next_numbers, schema_of}

abbrev int_key : ℕ → List ℕ
int_key n = 1 ∷ 128 ∷ 0 ∷ 0 ∷ 0 ∷ 0 ∷ 0 ∷ 0 ∷ n ∷ []

abbrev int : ℕ → Value
int n = Value.Int (pos n)

-- ---- a unit of two hierarchies: persons and workers, and orders, which have buyers

abbrev attribute : List ℕ → Kind → ℕ → Option (List ℕ) → Attribute
attribute name kind column converter = record { name = name; kind = kind; column = column; required = false; converter = converter }

abbrev entity : List ℕ → Origin → List Attribute → List Relation → Entity
entity name origin attributes relations = record { name = name; origin = origin; discriminator = name; attributes = attributes; relations = relations; listeners = []; callbacks = []; exclude_default = false; exclude_super = false }

abbrev relation : List ℕ → Side → Relation
relation name side = record { name = name; side = side; target = 0; cascade = no_cascade; orphan_removal = false }

abbrev root : ℕ → Part → Option VersionColumn → Origin
root table part version = Origin.Root (record { table = table; key = part ∷ []; embedded = None; generated = false; version = version })

abbrev person : Entity
person = entity (codes "Person") (root 1 (record { name = codes "id"; kind = Kind.Int }) (Some (record { name = codes "version"; column = 1 }))) (attribute (codes "name") Kind.Text 2 None ∷ []) []

abbrev order : Entity
order =
    entity (codes "Order") (root 2 (record { name = codes "number"; kind = Kind.Text }) None) (attribute (codes "amount") Kind.Int 1 (Some (codes "Money")) ∷ [])
    (relation (codes "person") (Side.ManyToOne (record { column = 2; required = false })) ∷ relation (codes "buyers") (Side.ManyToMany 3) ∷ [])

abbrev worker : Entity
worker = entity (codes "Worker") (Origin.Extends 0) (attribute (codes "salary") Kind.Int 3 None ∷ []) []

abbrev unit : PersistenceUnit
unit = record { revision = 1; listeners = []; entities = person ∷ order ∷ worker ∷ [] }

-- the version's column, and those of the subclass, in the root's table
abbrev persons : TableRule
persons = record { table = 1; key = Kind.Int ∷ []; columns = rule 0 (Holds.Kind Kind.Text) ∷ rule 1 (Holds.Kind Kind.Int) ∷ rule 2 (Holds.Kind Kind.Text) ∷ rule 3 (Holds.Kind Kind.Int) ∷ [] }

-- what a converter makes is of any kind
abbrev orders : TableRule
orders = record { table = 2; key = Kind.Text ∷ []; columns = rule 0 (Holds.Kind Kind.Text) ∷ rule 1 Holds.Any ∷ rule 2 (Holds.Reference (Kind.Int ∷ [])) ∷ [] }

-- the owner's key first
abbrev buyers : TableRule
buyers = record { table = 3; key = Kind.Text ∷ Kind.Int ∷ []; columns = rule 0 (Holds.Kind Kind.Int) ∷ [] }

tables : schema_of unit ≡ record { tables = next_numbers ∷ persons ∷ orders ∷ buyers ∷ [] }
tables = refl

-- ---- rows and their cells (first-run)

abbrev ada : Row
ada = field 0 (Content.Value (Value.Text (codes "Person"))) ∷ field 1 (Content.Value (int 0)) ∷ field 2 (Content.Value (Value.Text (codes "Ada"))) ∷ []

abbrev ada_cells : List (ℤ × List ℕ)
ada_cells = (pos 0, 2 ∷ codes "Person") ∷ (pos 1, int_key 0) ∷ (pos 2, 2 ∷ codes "Ada") ∷ []

ada_spelled : SpellsRow persons ada_cells ada
unfolding is_utf8 chars lib.Utf8.encode
ada_spelled = record { whole = record { rising = tt; each = refl }; same = refl }

ada_named : SpellsId persons (int_key 1) (int 1 ∷ [])
ada_named = record { whole = refl; same = refl }

next_number : SpellsRow next_numbers ((pos 0, int_key 2) ∷ []) (field 0 (Content.Value (int 2)) ∷ [])
next_number = record { whole = record { rising = tt; each = refl }; same = refl }

-- a pair, and a link
pair_named : SpellsId buyers (2 ∷ 97 ∷ 0 ∷ 0 ∷ int_key 1) (Value.Text (97 ∷ []) ∷ int 1 ∷ [])
unfolding is_utf8 chars lib.Utf8.encode
pair_named = record { whole = refl; same = refl }

pair_spelled : SpellsRow buyers ((pos 0, int_key 1) ∷ []) (field 0 (Content.Value (int 1)) ∷ [])
pair_spelled = record { whole = record { rising = tt; each = refl }; same = refl }

link : content_bytes (Content.Reference (int 1 ∷ [])) ≡ 4 ∷ int_key 1
link = refl

-- ---- what no column holds

no_reference : may_hold (Holds.Reference (Kind.Int ∷ [])) (Content.Value (int 1)) ≡ false
no_reference = refl

other_kind : may_hold (Holds.Kind Kind.Text) (Content.Value (int 1)) ≡ false
other_kind = refl

null : may_hold Holds.Any (Content.Value Value.Null) ≡ false
null = refl

long_key : is_key (Kind.Int ∷ []) (int 1 ∷ int 2 ∷ []) ≡ false
long_key = refl
