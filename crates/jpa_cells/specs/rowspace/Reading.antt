-- What is read of rows of cells: the rows that they spell, up to the first that spells none.
use Rattle.std.specs.Prelude.{◌≡◌, ◌≢◌, ◌⊎◌, ◌↔◌, ℕ, ℤ, pos, ⊤, Bool, Result, Err, List, [], ◌∷◌, ◌++◌, map, Option}
use Rattle.std.specs.Prelude.{Some, None, IsSome}
use Rattle.jpa_value.specs.declared.refusal.Cause.{Cause}
use Rattle.jpa_value.specs.declared.refusal.Cause.TheVariants as cause
use Rattle.jpa_rows.specs.declared.rows.schema.TableRule.{TableRule}
use Rattle.jpa_rows.specs.declared.rows.schema.Schema.{Schema}
use Rattle.jpa_rows.specs.rows.Rows.{RowId, Row, Rows, AreRising, table_of, table_rows, SpellsId, SpellsRow}
use Rattle.jpa_cells.specs.declared.meaning.Cell.{Cell}
use Rattle.jpa_cells.specs.declared.meaning.CellRow.{CellRow}
use Rattle.jpa_cells.specs.meaning.Tables.{Tables, AreRows}
use Rattle.jpa_cells.specs.rowspace.Stored.{AreRowsOf, AreStored}

-- cells as columns with bytes
abbrev pub columns_of : List Cell → List (ℤ × List ℕ)
columns_of = map (λ c. (c.column, c.value))

-- columns with bytes as cells
abbrev pub cells_from : List (ℤ × List ℕ) → List Cell
cells_from = map (λ p. record { column = p.0; value = p.1 })

-- ---- one row

-- the row that the cells spell and no other; none where there are no cells
abbrev pub IsFound : TableRule → List Cell → Option Row → Type 0
IsFound table [] found = found ≡ None
IsFound table (cell ∷ cells) found =
    IsSome found × ((row : Row) → (found ≡ Some row) ↔ SpellsRow table (columns_of (cell ∷ cells)) row)

-- there are cells, and they spell no row of the table
pub record IsIllFormed (table : TableRule) (cells : List Cell) : Type 0 where
  pub some : cells ≢ []
  pub spells_none : (row : Row) → SpellsRow table (columns_of cells) row → ⊥

-- ---- a table

-- a row of cells spells this id of the table and this row
pub record SpellsEntry (table : TableRule) (stored : CellRow) (e : RowId × Row) : Type 0 where
  pub own : (e.0).table ≡ table.table
  pub named : SpellsId table stored.row (e.0).key
  pub whole : SpellsRow table (columns_of stored.cells) e.1

-- the row of cells spells this id and row, and no others
abbrev pub IsEntry : TableRule → CellRow → RowId × Row → Type 0
IsEntry table stored e = (f : RowId × Row) → (e ≡ f) ↔ SpellsEntry table stored f

-- its bytes spell no id of the table, or its cells no row
abbrev pub IsDamaged : TableRule → CellRow → Type 0
IsDamaged table stored = (e : RowId × Row) → SpellsEntry table stored e → ⊥

-- the rows of cells spell these rows, one by one
abbrev pub AreEntries : TableRule → List CellRow → Rows → Type 0
AreEntries table [] [] = ⊤
AreEntries table (r ∷ stored) (e ∷ rows) = IsEntry table r e × AreEntries table stored rows
AreEntries table stored rows = ⊥

-- these are all of the rows; or those before the first that is damaged, which has these bytes
abbrev pub AreRead : TableRule → List CellRow → Rows → Option (List ℕ) → Type 0
AreRead table stored rows None = AreEntries table stored rows
AreRead table stored rows (Some bytes) =
    (before : List CellRow) × (r : CellRow) × (after : List CellRow) × (stored ≡ before ++ r ∷ after)
    × AreEntries table before rows × IsDamaged table r × (r.row ≡ bytes)

-- A row of cells is handed on as the entry that it spells; where it spells none, that is the
-- refusal. For want of memory none is.
abbrev pub ReadsRow : {K : Type 0} → (K → RowId × Row → Result Bool Cause → K → Type 0) → TableRule → K → CellRow →
    Result Bool Cause → K → Type 0
ReadsRow Takes table first stored out last =
    ((e : RowId × Row) × IsEntry table stored e × Takes first e out last)
    ⊎ (((out ≡ Err cause.OutOfMemory) ⊎ (IsDamaged table stored × (out ≡ Err (cause.Damaged table.table stored.row))))
    × (last ≡ first))

-- ---- all tables

-- a table that is read whole; the rows of a table that the schema lacks are none
abbrev pub IsReadBy : Option TableRule → List CellRow → Rows → Type 0
IsReadBy None stored rows = rows ≡ []
IsReadBy (Some table) stored rows = AreRows stored × AreRead table stored rows None

-- rows that are read of all tables of a schema are those that the tables have
abbrev pub ReadsAll : Type 0
ReadsAll =
    (schema : Schema) (tables : Tables) (rows : Rows) → AreRising rows →
    ((table : ℕ) → IsReadBy (table_of schema table) (tables (pos table)) (table_rows table rows)) →
    AreRowsOf schema rows × AreStored schema tables rows
