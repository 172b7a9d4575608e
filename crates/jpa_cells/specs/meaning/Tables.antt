-- Tables of rows of cells, and what changes make of them.
use Rattle.std.specs.Prelude.{◌≡◌, ◌≢◌, ◌+◌, ◌^◌, ◌≤◌, ℕ, ℤ, not, List, [], ◌∷◌, length, filter, fold}
use Rattle.std.specs.Prelude.{if◌then◌else◌}
use Rattle.std.specs.List.{AllByRecursion}
use Rattle.std.specs.declared.cmp.Ordering.{Ordering}
use Rattle.std.specs.declared.cmp.Ordering.TheVariants.{Less}
use Rattle.std.specs.Ordering.{on, is_eq, nat_cmp, int_cmp, match_ordering}
use Rattle.std.specs.Cmp.Lexicographic.{slice_cmp}
use Rattle.sqlite.specs.Tree.{IsAscending}
use Rattle.sqlite_keyed.specs.Lists.{insert_sorted}
use Rattle.jpa_cells.specs.declared.meaning.Cell.{Cell}
use Rattle.jpa_cells.specs.declared.meaning.CellRow.{CellRow}
use Rattle.jpa_cells.specs.declared.meaning.CellChange.{CellChange}

-- The rows of each table, by its number: in rising order of their bytes, none without a cell, and
-- each with its cells in rising order of their columns. A table that nothing was written to has
-- none.
abbrev pub Tables : Type 0
Tables = ℤ → List CellRow

-- byte by byte, where a beginning comes first
abbrev pub key_cmp : List ℕ → List ℕ → Ordering
key_cmp = slice_cmp nat_cmp

-- the order of cells: by their columns
abbrev pub cell_cmp : Cell → Cell → Ordering
cell_cmp = on (λ c. c.column) int_cmp

-- a row of these bytes and cells
abbrev pub row_of : List ℕ → List Cell → CellRow
row_of key cells = record { row = key; cells = cells }

-- the rows rise, none lacks cells, and the columns of each rise
pub record AreRows (rows : List CellRow) : Type 0 where
  pub rise : IsAscending (λ (a b : CellRow). key_cmp a.row b.row ≡ Less) rows
  pub full : AllByRecursion (λ (r : CellRow). length r.cells ≡ 0 → ⊥) rows
  pub columns : AllByRecursion (λ (r : CellRow). IsAscending (λ a b. cell_cmp a b ≡ Less) r.cells) rows

-- the cells of the row with these bytes, and none where there is no such row
abbrev pub cells_at : List ℕ → List CellRow → List Cell
cells_at key [] = []
cells_at key (row ∷ rows) = if is_eq (key_cmp key row.row) then row.cells else cells_at key rows

-- in rising columns: each cell is put in its place in turn
abbrev pub placed : List Cell → List Cell
placed cells = fold (λ sorted cell. insert_sorted cell_cmp cell sorted) [] cells

-- no column comes twice
abbrev pub ColumnsDiffer : List Cell → Type 0
ColumnsDiffer = IsAscending (λ (a b : Cell). a.column ≢ b.column)

-- no change names a column twice
abbrev pub NameColumnsOnce : List CellChange → Type 0
NameColumnsOnce = AllByRecursion (λ (c : CellChange). ColumnsDiffer c.cells)

-- The database takes a billion bytes in a row, with 18 for each of its five values.
abbrev pub AreShort : List ℕ → List Cell → Type 0
AreShort key = AllByRecursion (λ (c : Cell). 90 + length key + length c.value ≤ 10 ^ 9)

-- the rows with this one in its place, and in place of the one that has its bytes
abbrev pub with_row : CellRow → List CellRow → List CellRow
with_row new [] = new ∷ []
with_row new (row ∷ rows) =
    match_ordering (key_cmp row.row new.row) (row ∷ with_row new rows) (new ∷ rows) (new ∷ row ∷ rows)

-- the rows without the one with these bytes
abbrev pub without_row : List ℕ → List CellRow → List CellRow
without_row key = filter (λ row. not (is_eq (key_cmp key row.row)))

-- a row's cells are replaced, and with no cell it is dropped
abbrev pub rows_after : List ℕ → List Cell → List CellRow → List CellRow
rows_after key [] rows = without_row key rows
rows_after key (cell ∷ cells) rows = with_row (row_of key (placed (cell ∷ cells))) rows

-- the tables after one change
abbrev pub changed : CellChange → Tables → Tables
changed change tables t =
    if is_eq (int_cmp change.table t) then rows_after change.row change.cells (tables t) else tables t

-- the changes in turn
abbrev pub tables_after : List CellChange → Tables → Tables
tables_after [] tables = tables
tables_after (change ∷ changes) tables = tables_after changes (changed change tables)

-- one DELETE for the row, and one INSERT for each cell
abbrev pub statements_of : CellChange → ℕ
statements_of change = length change.cells + 1
