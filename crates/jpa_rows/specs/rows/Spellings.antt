-- What it is for bytes to spell what a column holds, and for a cell to spell a field.
use Rattle.std.specs.Prelude.{◌≡◌, ◌↔◌, ℕ, ℤ, pos, true, List, Option, Some}
use Rattle.std.specs.List.{list_all}
use Rattle.jpa_value.specs.declared.value.Kind.{Kind}
use Rattle.jpa_value.specs.declared.value.Value.{Value}
use Rattle.jpa_rows.specs.keys.Keys.{key_bytes}
use Rattle.jpa_rows.specs.declared.rows.row.Content.{Content}
use Rattle.jpa_rows.specs.declared.rows.row.Field.{Field}
use Rattle.jpa_rows.specs.declared.rows.schema.Holds.{Holds}
use Rattle.jpa_rows.specs.declared.rows.schema.TableRule.{TableRule}
use Rattle.jpa_rows.specs.rows.Rows.{Row, content_bytes, cells_of, is_key, may_hold, is_field_by, rule_of}

-- what was found is the only thing with this property, and nothing was found where nothing has it
abbrev pub Finds : {A : Type 0} → (A → Type 0) → Option A → Type 0
Finds {A} P found = (a : A) → (found ≡ Some a) ↔ P a

-- the bytes are those of this key, which is of these kinds
pub record SpellsKey (kinds : List Kind) (bytes : List ℕ) (key : List Value) : Type 0 where
  pub whole : is_key kinds key ≡ true
  pub same : key_bytes key ≡ bytes

-- the bytes are those of this content, which the column may hold
pub record SpellsContent (holds : Holds) (bytes : List ℕ) (content : Content) : Type 0 where
  pub whole : may_hold holds content ≡ true
  pub same : content_bytes content ≡ bytes

-- the bytes are those of this value, which the column may hold
abbrev pub SpellsValue : Holds → List ℕ → Value → Type 0
SpellsValue holds bytes v = SpellsContent holds bytes (Content.Value v)

-- the cell is that of this field, which is one of the table's
pub record SpellsField (table : TableRule) (cell : ℤ × List ℕ) (field : Field) : Type 0 where
  pub whole : is_field_by field.content (rule_of table field.column) ≡ true
  pub same : (pos field.column, content_bytes field.content) ≡ cell

-- the cells are those of these fields, which are the table's; they need not rise
pub record SpellsFields (table : TableRule) (cells : List (ℤ × List ℕ)) (row : Row) : Type 0 where
  pub each : list_all (λ f. is_field_by f.content (rule_of table f.column)) row ≡ true
  pub same : cells_of row ≡ cells
