-- The cells of rows, one by one, as a store keeps them.
use Rattle.std.specs.Prelude.{◌≢◌, ℕ, ℤ, Bool, ◌==◌, List, [], map, T}
use Rattle.std.specs.List.{flat_map, list_any, AllByRecursion}
use Rattle.std.specs.FinMap.{is_sorted}
use Rattle.std.specs.FinMap.Entries.{where_key}
use Rattle.std.specs.Ordering.{int_cmp}
use Rattle.jpa_model.specs.declared.unit.PersistenceUnit.{PersistenceUnit}
use Rattle.jpa_rows.specs.rows.Cells.{Cell, tables_of}
use Rattle.jpa_object_rows.specs.meaning.Rows.{RowId, row_cmp, Columns, Row, Rows, AreRising}

-- a column of a row as a cell
abbrev pub cell_in : RowId → ℤ × List ℕ → Cell
cell_in r c = record { table = r.table; row = r.row; column = c.0; bytes = c.1 }

-- the cells of a row
abbrev pub cells_of_row : Row → List Cell
cells_of_row row = map (cell_in row.0) row.1

-- the cells of rows
abbrev pub cells_of : Rows → List Cell
cells_of = flat_map cells_of_row

-- what cells can show of rows: ids and columns rise, and no row is without cells
pub record IsRow (columns : Columns) : Type 0 where
  pub rising : T (is_sorted int_cmp columns)
  pub filled : columns ≢ []

-- ids rise, and each row is one that cells can show
pub record IsNormal (rows : Rows) : Type 0 where
  pub rising : AreRising rows
  pub each : AllByRecursion (λ row. IsRow row.1) rows

-- the rows in the unit's tables
abbrev pub is_own_table : PersistenceUnit → ℕ → Bool
is_own_table m table = list_any (λ t. t == table) (tables_of m)

-- the rows in the unit's tables
abbrev pub own_rows : PersistenceUnit → Rows → Rows
own_rows m = where_key row_cmp (λ r. is_own_table m r.table)
