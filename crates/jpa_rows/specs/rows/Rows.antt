-- Rows by id, how they are spelled as cells, and what it is for cells to spell one.
use Rattle.std.specs.Prelude.{◌≡◌, ◌≢◌, IfSome, All, ℕ, ℤ, pos, Bool, true, false, ◌==◌, ◌&&◌, List, [], ◌∷◌, map, find}
use Rattle.std.specs.Prelude.{Option, Some, None, unwrap_or, T}
use Rattle.std.specs.List.{list_all}
use Rattle.std.specs.FinMap.{is_sorted}
use Rattle.std.specs.FinMap.Entries.{where_key}
use Rattle.std.specs.Ordering.{nat_cmp}
use Rattle.jpa_value.specs.declared.value.Value.{Value}
use Rattle.jpa_value.specs.declared.value.Kind.{Kind}
use Rattle.jpa_value.specs.declared.value.Identity.{Identity}
use Rattle.jpa_value.specs.Value.{identity_cmp, is_representable}
use Rattle.jpa_rows.specs.keys.Keys.{is_part_of, is_key_of, key_bytes}
use Rattle.jpa_behaviour.specs.Behaviour.{is_short}
use Rattle.jpa_rows.specs.declared.rows.row.Content.{Content}
use Rattle.jpa_rows.specs.declared.rows.row.Field.{Field}
use Rattle.jpa_rows.specs.declared.rows.schema.Holds.{Holds}
use Rattle.jpa_rows.specs.declared.rows.schema.ColumnRule.{ColumnRule}
use Rattle.jpa_rows.specs.declared.rows.schema.TableRule.{TableRule}
use Rattle.jpa_rows.specs.declared.rows.schema.Schema.{Schema}
use Rattle.jpa_rows.specs.declared.rows.row.RowChange.{RowChange}
use Rattle.jpa_rows.specs.laws.Changes.{seen}
use Rattle.jpa_rows.specs.rows.ValueBytes.{value_bytes, is_given}

-- what names a row: its table and its key
abbrev pub RowId : Type 0
RowId = Identity

-- a row: its columns with what they hold
abbrev pub Row : Type 0
Row = List Field

-- a finite map from ids to rows, as entries in rising order
abbrev pub Rows : Type 0
Rows = List (RowId × Row)

-- the ids of rows rise
abbrev pub AreRising : Rows → Type 0
AreRising rows = T (is_sorted identity_cmp rows)

-- the rows of a table
abbrev pub table_rows : ℕ → Rows → Rows
table_rows table rows = where_key identity_cmp (λ id. id.table == table) rows

-- ---- spelled as cells: columns with bytes

-- a value as in a cell, a reference the byte 4 and the bytes of the key
abbrev pub content_bytes : Content → List ℕ
content_bytes (Content.Value v) = unwrap_or (value_bytes v) []
content_bytes (Content.Reference key) = 4 ∷ key_bytes key

-- the cells of a row: columns with bytes
abbrev pub cells_of : Row → List (ℤ × List ℕ)
cells_of = map (λ f. (pos f.column, content_bytes f.content))

-- ---- the rows of a table

-- a key of these kinds, whose values are short enough
abbrev pub is_key : List Kind → List Value → Bool
is_key kinds key = is_key_of kinds key && list_all is_short key

-- whether a column may hold a content: a value of its kind, any value, or a key
abbrev pub may_hold : Holds → Content → Bool
may_hold (Holds.Kind kind) (Content.Value v) = is_part_of kind v && is_short v
may_hold Holds.Any (Content.Value v) = is_given v && (is_representable v && is_short v)
may_hold (Holds.Reference kinds) (Content.Reference key) = is_key kinds key
may_hold holds content = false

-- the rule of a column, if the table has the column
abbrev pub rule_of : TableRule → ℕ → Option ColumnRule
rule_of table column = find (λ rule. rule.column == column) table.columns

-- there is a rule, and by it the column may hold the content
abbrev pub is_field_by : Content → Option ColumnRule → Bool
is_field_by content None = false
is_field_by content (Some rule) = may_hold rule.holds content

-- columns rise, and each is one of the table's that may hold what it holds
pub record IsRowOf (table : TableRule) (row : Row) : Type 0 where
  pub rising : T (is_sorted nat_cmp (map (λ f. (f.column, f.content)) row))
  pub each : list_all (λ f. is_field_by f.content (rule_of table f.column)) row ≡ true

-- the cells are those of this row, which is one of the table's
pub record SpellsRow (table : TableRule) (cells : List (ℤ × List ℕ)) (row : Row) : Type 0 where
  pub whole : IsRowOf table row
  pub same : cells_of row ≡ cells

-- the bytes are those of this key, which names a row of the table
pub record SpellsId (table : TableRule) (bytes : List ℕ) (key : List Value) : Type 0 where
  pub whole : is_key table.key key ≡ true
  pub same : key_bytes key ≡ bytes

-- the rule of a table, if the schema has the table
abbrev pub table_of : Schema → ℕ → Option TableRule
table_of schema table = find (λ rule. rule.table == table) schema.tables

-- ---- changes

-- what a change gives its id: this row, or none
abbrev pub entry_of : RowChange → RowId × Option Row
entry_of change = (change.id, change.row)

-- the rows after changes
abbrev pub rows_after : List RowChange → Rows → Rows
rows_after changes rows = seen identity_cmp rows (map entry_of changes)

-- the id names a row of the table, and the row is one of the table's, with a column
pub record IsChangeIn (table : TableRule) (change : RowChange) : Type 0 where
  pub named : is_key table.key (change.id).key ≡ true
  pub whole : IfSome change.row (IsRowOf table)
  pub filled : IfSome change.row (λ row. row ≢ [])

-- there is the table, and the change is of a row of it
abbrev pub IsChangeBy : Option TableRule → RowChange → Type 0
IsChangeBy None change = ⊥
IsChangeBy (Some table) change = IsChangeIn table change

-- each is of a row of one of the schema's tables, and no row has two
pub record AreChanges (schema : Schema) (changes : List RowChange) : Type 0 where
  pub rising : T (is_sorted identity_cmp (map entry_of changes))
  pub each : All (λ change. IsChangeBy (table_of schema (change.id).table) change) changes
