-- Rows by their bytes: ids and contents as they are spelled as cells.
use Rattle.std.specs.Prelude.{◌≡◌, ◌≢◌, Bool, true, false, List, [], map, Option, Some, None}
use Rattle.std.specs.List.{AllByRecursion}
use Rattle.jpa_value.specs.declared.value.Value.{Value}
use Rattle.jpa_rows.specs.declared.rows.schema.Schema.{Schema}
use Rattle.jpa_rows.specs.declared.rows.schema.TableRule.{TableRule}
use Rattle.jpa_rows.specs.rows.Rows.{RowId, Row, Rows, AreRising, cells_of, is_key, table_of, IsRowOf}
use Rattle.jpa_object_rows.specs.meaning.Rows as by_bytes
use Rattle.jpa_object_rows.specs.meaning.Rows.{row_of}

-- an id with the bytes of its key, and the cells of its row
abbrev pub raw_entry : RowId × Row → by_bytes.Row
raw_entry e = (row_of e.0, cells_of e.1)

-- rows by the bytes of their keys
abbrev pub raw : Rows → by_bytes.Rows
raw = map raw_entry

-- ---- ids of a schema's tables

-- there is the table, and a row of it may have this key
abbrev pub is_key_by : Option TableRule → List Value → Bool
is_key_by None key = false
is_key_by (Some table) key = is_key table.key key

-- the id names a row of one of the tables
abbrev pub is_id_of : Schema → RowId → Bool
is_id_of schema id = is_key_by (table_of schema id.table) id.key

-- each id names a row of one of the schema's tables
abbrev pub AreIds : Schema → List RowId → Type 0
AreIds schema = AllByRecursion (λ id. is_id_of schema id ≡ true)

-- each row stands under an id of one of the schema's tables
abbrev pub AreNamed : Schema → Rows → Type 0
AreNamed schema = AllByRecursion (λ e. is_id_of schema e.0 ≡ true)

-- rows of a store: rising, each under an id of one of the tables
pub record AreRowsOf (schema : Schema) (rows : Rows) : Type 0 where
  pub rising : AreRising rows
  pub named : AreNamed schema rows

-- there is the table, and the row is one of it
abbrev pub IsRowBy : Option TableRule → Row → Type 0
IsRowBy None row = ⊥
IsRowBy (Some table) row = IsRowOf table row

-- no row is without columns
abbrev pub AreFilled : Rows → Type 0
AreFilled = AllByRecursion (λ e. e.1 ≢ [])

-- each row is one of those of the table that its id names
abbrev pub AreWhole : Schema → Rows → Type 0
AreWhole schema = AllByRecursion (λ e. IsRowBy (table_of schema (e.0).table) e.1)
