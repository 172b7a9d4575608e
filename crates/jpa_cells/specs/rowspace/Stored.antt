-- Rows as a store of cells keeps them, and the changes of cells that make them.
use Rattle.std.specs.Prelude.{◌≡◌, ◌≢◌, ℕ, pos, true, List, [], map, Option, Some, None, IsSome, if◌then◌else◌}
use Rattle.std.specs.List.{AllByRecursion}
use Rattle.jpa_value.specs.declared.value.Value.{Value}
use Rattle.jpa_rows.specs.keys.Keys.{key_bytes}
use Rattle.jpa_rows.specs.declared.rows.row.Field.{Field}
use Rattle.jpa_rows.specs.declared.rows.row.RowChange.{RowChange}
use Rattle.jpa_rows.specs.declared.rows.schema.TableRule.{TableRule}
use Rattle.jpa_rows.specs.declared.rows.schema.Schema.{Schema}
use Rattle.jpa_rows.specs.rows.Rows.{RowId, Row, Rows, AreRising, table_rows, content_bytes, is_key, table_of, IsRowOf}
use Rattle.jpa_cells.specs.declared.meaning.Cell.{Cell}
use Rattle.jpa_cells.specs.declared.meaning.CellRow.{CellRow}
use Rattle.jpa_cells.specs.declared.meaning.CellChange.{CellChange}
use Rattle.jpa_cells.specs.meaning.Tables.{Tables, row_of}

-- the cell of a field
abbrev pub cell_of : Field → Cell
cell_of f = record { column = pos f.column; value = content_bytes f.content }

-- the cells of a row, under the bytes of its key
abbrev pub stored_row : RowId × Row → CellRow
stored_row e = row_of (key_bytes (e.0).key) (map cell_of e.1)

-- the rows of a table, as cells
abbrev pub stored_rows : ℕ → Rows → List CellRow
stored_rows table rows = map stored_row (table_rows table rows)

-- ---- changes

-- the cells of what is to stand under an id; none where the row is dropped
abbrev pub cells_in : Option Row → List Cell
cells_in None = []
cells_in (Some row) = map cell_of row

-- a change of a row, as a change of cells
abbrev pub cell_change : RowChange → CellChange
cell_change change =
    record { table = pos (change.id).table; row = key_bytes (change.id).key; cells = cells_in change.row }

-- changes of rows, as changes of cells
abbrev pub cell_changes : List RowChange → List CellChange
cell_changes = map cell_change

-- ---- the rows of a schema

-- the table, where there is one and a row of it may have this key
abbrev pub table_if : Option TableRule → List Value → Option TableRule
table_if None key = None
table_if (Some table) key = if is_key table.key key then Some table else None

-- the table of which the id names a row
abbrev pub table_for : Schema → RowId → Option TableRule
table_for schema id = table_if (table_of schema id.table) id.key

-- the id names a row of the table, and the row is one of the table's, with a column
pub record IsEntryIn (table : TableRule) (e : RowId × Row) : Type 0 where
  pub named : is_key table.key (e.0).key ≡ true
  pub whole : IsRowOf table e.1
  pub filled : e.1 ≢ []

-- there is the table, and the row is one of it
abbrev pub IsEntryBy : Option TableRule → RowId × Row → Type 0
IsEntryBy None e = ⊥
IsEntryBy (Some table) e = IsEntryIn table e

-- each is a row of one of the schema's tables
pub record AreRowsOf (schema : Schema) (rows : Rows) : Type 0 where
  pub rising : AreRising rows
  pub each : AllByRecursion (λ e. IsEntryBy (table_of schema (e.0).table) e) rows

-- each of the schema's tables has its rows of these, as cells, and no others
abbrev pub AreStored : Schema → Tables → Rows → Type 0
AreStored schema tables rows =
    (table : ℕ) → IsSome (table_of schema table) → tables (pos table) ≡ stored_rows table rows
