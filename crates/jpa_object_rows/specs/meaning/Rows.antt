-- Rows by id: finite maps from ids to cells by column, both as entries in rising order.
use Rattle.std.specs.Prelude.{ℕ, ℤ, Bool, List, T}
use Rattle.std.specs.declared.cmp.Ordering.{Ordering}
use Rattle.std.specs.Ordering.{nat_cmp, int_cmp, ordering_then, is_eq}
use Rattle.std.specs.FinMap.{is_sorted}
use Rattle.std.specs.Cmp.Lexicographic.{slice_cmp}
use Rattle.jpa_value.specs.declared.value.Identity.{Identity}
use Rattle.jpa_rows.specs.keys.Keys.{key_bytes}

-- what names a row: its table and its bytes
pub record RowId : Type 0 where
  pub table : ℕ
  pub row : List ℕ

-- by table, then by bytes
abbrev pub row_cmp : RowId → RowId → Ordering
row_cmp a b = ordering_then (nat_cmp a.table b.table) (slice_cmp nat_cmp a.row b.row)

-- the cells of a row by column
abbrev pub Columns : Type 0
Columns = List (ℤ × List ℕ)

-- a row: its id and its columns
abbrev pub Row : Type 0
Row = RowId × Columns

-- rows, by their ids
abbrev pub Rows : Type 0
Rows = List Row

-- the ids of rows rise
abbrev pub AreRising : Rows → Type 0
AreRising rows = T (is_sorted row_cmp rows)

-- the order of cells: by column, then by bytes
abbrev pub column_cmp : ℤ × List ℕ → ℤ × List ℕ → Ordering
column_cmp a b = ordering_then (int_cmp a.0 b.0) (slice_cmp nat_cmp a.1 b.1)

-- whether two lists of bytes are the same
abbrev pub same_bytes : List ℕ → List ℕ → Bool
same_bytes a b = is_eq (slice_cmp nat_cmp a b)

-- whether two rows have the same columns with the same bytes
abbrev pub same_columns : Columns → Columns → Bool
same_columns a b = is_eq (slice_cmp column_cmp a b)

-- the main row of an object
abbrev pub row_of : Identity → RowId
row_of id = record { table = id.table; row = key_bytes id.key }
