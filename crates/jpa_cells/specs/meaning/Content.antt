-- How the rows of the one table of the database stand for tables of rows of cells, and what a
-- connection over it keeps.
use Rattle.std.specs.Prelude.{◌≡◌, ◌⊎◌, ◌&&◌, ℕ, ◌+◌, ◌≤◌, ℤ, pos, ◌+ℤ◌, Bool, true, false, IsTrue, IsSome, List, []}
use Rattle.std.specs.Prelude.{◌∷◌, ◌++◌, length, sum_by, map, filter, if◌then◌else◌}
use Rattle.std.specs.List.{All, AllByRecursion}
use Rattle.std.specs.declared.cmp.Ordering.{Ordering}
use Rattle.std.specs.Ordering.{on, then_cmp, is_eq, nat_cmp, int_cmp}
use Rattle.sqlite.specs.declared.types.Value.{Value}
use Rattle.sqlite.specs.declared.types.Value.TheVariants.{Null, Int, Real, Text, Blob}
use Rattle.sqlite.specs.Order.{Row, column, value_cmp, bytes}
use Rattle.sqlite.specs.Tree.{Trees, IsTable, rowid}
use Rattle.sqlite.specs.Values.{IsInt}
use Rattle.sqlite.specs.Ops.{fits_i64}
use Rattle.sqlite.specs.Edit.{id_in}
use Rattle.sqlite_keyed.specs.Lists.{insert_sorted, sort_by}
use Rattle.std.specs.Cmp.Lexicographic.{slice_cmp}
use Rattle.sqlite.specs.Effect.{Database, IsDatabase}
use Rattle.sqlite.specs.State.{State, HasCleanDisk}
use Rattle.sqlite.specs.Disk.{MoreFaults}
use Rattle.sqlite.specs.declared.error.Error.{Error}
use Rattle.sqlite.specs.declared.error.Error.TheVariants.{SqliteFailure}
use Rattle.sqlite.specs.declared.error.ErrorCode.TheVariants as code
use Rattle.jpa_cells.specs.declared.meaning.Cell.{Cell}
use Rattle.jpa_cells.specs.declared.meaning.CellRow.{CellRow}
use Rattle.jpa_cells.specs.declared.meaning.CellChange.{CellChange}
use Rattle.jpa_cells.specs.meaning.Tables.{Tables, AreRows, row_of, cells_at, cell_cmp, placed, tables_after}
use Rattle.jpa_cells.specs.meaning.Tables.{ColumnsDiffer, NameColumnsOnce, AreShort}
use Rattle.jpa_cells.specs.meaning.Schema.{cell_schema}

-- the number, and 0 at a value of another kind
abbrev pub int_in : Value → ℤ
int_in Null = pos 0
int_in (Int n) = n
int_in (Real x) = pos 0
int_in (Text t) = pos 0
int_in (Blob b) = pos 0

-- the row of the database belongs to this row of this table
abbrev pub is_of : ℤ → List ℕ → Row → Bool
is_of table key row = is_eq (value_cmp (column row 1) (Int table)) && is_eq (value_cmp (column row 2) (Blob key))

-- the cell that a row of the database is
abbrev pub cell_in : Row → Cell
cell_in row = record { column = int_in (column row 3); value = bytes (column row 4) }

-- the cells of a row, as the rows of the database come
abbrev pub loose_cells : ℤ → List ℕ → List Row → List Cell
loose_cells table key rows = map cell_in (filter (is_of table key) rows)

-- the cells of a row of a table, in rising columns
abbrev pub cells_of : ℤ → List ℕ → List Row → List Cell
cells_of table key rows = sort_by cell_cmp (loose_cells table key rows)

-- a row of the database is a cell: rowid, table, row, column and bytes
pub record IsCellRow (row : Row) : Type 0 where
  pub id : ℤ
  pub table : ℤ
  pub key : List ℕ
  pub column : ℤ
  pub value : List ℕ
  pub is : row ≡ Int id ∷ Int table ∷ Blob key ∷ Int column ∷ Blob value ∷ []

-- the rowids rise, and each row is a cell
pub record AreCells (rows : List Row) : Type 0 where
  pub rise : IsTable rows
  pub each : AllByRecursion IsCellRow rows

-- the store keeps the rows in the order of their rowids, which are numbers
pub record AreInOrder (rows : List Row) : Type 0 where
  pub rise : IsTable rows
  pub numbered : AllByRecursion (λ r. IsInt (rowid r)) rows

-- the database is the one table of cells
pub record HoldsCells (db : Database) : Type 0 where
  pub schema : db.schema ≡ cell_schema
  pub sound : IsDatabase db
  pub ordered : AreInOrder (db.trees 0)

-- the key of a row, and one of its cells
abbrev pub Entry : Type 0
Entry = List ℕ × Cell

-- by the bytes of the key, and then by the column
abbrev pub entry_cmp : Entry → Entry → Ordering
entry_cmp = then_cmp (on (λ e. e.0) (slice_cmp nat_cmp)) (on (λ e. e.1) cell_cmp)

-- whether a row of the database belongs to a table
abbrev pub is_in : ℤ → Row → Bool
is_in table row = is_eq (value_cmp (column row 1) (Int table))

-- the row and the cell that a row of the database is
abbrev pub entry_in : Row → Entry
entry_in row = (bytes (column row 2), cell_in row)

-- the cells of a table, in the order of their keys and columns
abbrev pub entries_of : ℤ → List Row → List Entry
entries_of table rows = sort_by entry_cmp (map entry_in (filter (is_in table) rows))

-- one more entry before rows: in the first, where that has its key, else in a row of its own
abbrev pub joined : Entry → List CellRow → List CellRow
joined e [] = row_of e.0 (e.1 ∷ []) ∷ []
joined e (r ∷ rs) = if is_eq (slice_cmp nat_cmp e.0 r.row) then row_of e.0 (e.1 ∷ r.cells) ∷ rs
    else row_of e.0 (e.1 ∷ []) ∷ r ∷ rs

-- the entries, with those of one key in a row
abbrev pub grouped : List Entry → List CellRow
grouped [] = []
grouped (e ∷ es) = joined e (grouped es)

-- one more entry, after those that the rows have
abbrev pub added : List CellRow → Entry → List CellRow
added [] e = row_of e.0 (e.1 ∷ []) ∷ []
added (r ∷ []) e = if is_eq (slice_cmp nat_cmp r.row e.0) then row_of r.row (r.cells ++ e.1 ∷ []) ∷ []
    else r ∷ row_of e.0 (e.1 ∷ []) ∷ []
added (r ∷ s ∷ rs) e = r ∷ added (s ∷ rs) e

-- what the database stands for
abbrev pub tables_of : Database → Tables
tables_of db table = grouped (entries_of table (db.trees 0))

-- ---- what the statements make of it, row by row

-- the cells of each row of each table
abbrev pub Contents : Type 0
Contents = ℤ → List ℕ → List Cell

-- the cells of a row of a table, as a database holds them
abbrev pub content : Database → Contents
content db table key = cells_of table key (db.trees 0)

-- the same row of the same table
abbrev pub is_same : ℤ → List ℕ → ℤ → List ℕ → Bool
is_same table key t k = is_eq (int_cmp table t) && is_eq (slice_cmp nat_cmp key k)

-- the contents with one more cell in a row
abbrev pub with_cell : ℤ → List ℕ → Cell → Contents → Contents
with_cell table key cell all t k = if is_same table key t k then insert_sorted cell_cmp cell (all t k) else all t k

-- the contents without the cells of a row
abbrev pub without_cells : ℤ → List ℕ → Contents → Contents
without_cells table key all t k = if is_same table key t k then [] else all t k

-- the contents with more cells in a row
abbrev pub with_cells : ℤ → List ℕ → List Cell → Contents → Contents
with_cells table key [] all = all
with_cells table key (cell ∷ cells) all = with_cells table key cells (with_cell table key cell all)

-- the contents with a row's cells replaced
abbrev pub replaced : CellChange → Contents → Contents
replaced change all t k = if is_same change.table change.row t k then placed change.cells else all t k

-- the contents after changes, in turn
abbrev pub contents_after : List CellChange → Contents → Contents
contents_after [] all = all
contents_after (change ∷ changes) all = contents_after changes (replaced change all)

-- ---- the rows of an answer

-- the cell that an answer's row shows: column and bytes
abbrev pub shown_cell : Row → Cell
shown_cell row = record { column = int_in (column row 0); value = bytes (column row 1) }

-- the row and the cell that an answer's row shows
abbrev pub shown_entry : Row → Entry
shown_entry row = (bytes (column row 0), record { column = int_in (column row 1); value = bytes (column row 2) })

-- a column's number and its bytes
pub record IsShownCell (row : Row) : Type 0 where
  pub column : ℤ
  pub value : List ℕ
  pub is : row ≡ Int column ∷ Blob value ∷ []

-- the bytes of a row, a column's number and its bytes
pub record IsShownEntry (row : Row) : Type 0 where
  pub key : List ℕ
  pub column : ℤ
  pub value : List ℕ
  pub is : row ≡ Blob key ∷ Int column ∷ Blob value ∷ []

-- ---- a connection over it

-- what is shown of an open connection over a clean disk
abbrev pub IsCellStore : State → Type 0
IsCellStore s = HasCleanDisk s → IsTrue s.is_open → HoldsCells s.now

-- the database is as it was; of a connection that is shut nothing is said
abbrev pub KeepsContent : State → State → Type 0
KeepsContent old new = HasCleanDisk new → IsTrue new.is_open → IsTrue old.is_open × (new.now ≡ old.now)

-- the open connection shows these, and is as it was
abbrev pub ShowsCells : State → State → ℤ → List ℕ → List Row → Type 0
ShowsCells old new table key rows = (IsTrue old.is_open × IsTrue new.is_open × (new.now ≡ old.now))
    × (map shown_cell rows ≡ cells_at key (tables_of old.now table)) × All IsShownCell rows

-- the open connection shows the table's cells, and is as it was
abbrev pub ShowsTable : State → State → ℤ → List Row → Type 0
ShowsTable old new table rows = (IsTrue old.is_open × IsTrue new.is_open × (new.now ≡ old.now))
    × (grouped (map shown_entry rows) ≡ tables_of old.now table) × AreRows (tables_of old.now table)
    × All IsShownEntry rows

-- a step within a transaction: the content is changed, and nothing is committed
pub record Steps (old new : State) (step : Contents → Contents) : Type 0 where
  pub was_open : IsTrue old.is_open
  pub is_open : IsTrue new.is_open
  pub inside : IsTrue new.in_transaction
  pub committed : new.committed ≡ old.committed
  pub holds : HoldsCells new.now
  pub content : (t : ℤ) (k : List ℕ) → content new.now t k ≡ step (content old.now) t k

-- what a transaction keeps while it goes on
pub record IsUnderWay (first now : State) : Type 0 where
  pub was_open : IsTrue first.is_open
  pub is_open : IsTrue now.is_open
  pub inside : IsTrue now.in_transaction
  pub committed : now.committed ≡ first.committed
  pub holds : HoldsCells now.now

-- the changes are made, and nothing is committed
pub record Turns (old new : State) (changes : List CellChange) : Type 0 where
  pub was_open : IsTrue old.is_open
  pub is_open : IsTrue new.is_open
  pub inside : IsTrue new.in_transaction
  pub committed : new.committed ≡ old.committed
  pub holds : HoldsCells new.now
  pub tables : tables_of new.now ≡ tables_after changes (tables_of old.now)

-- the changes are made and committed
pub record Applied (old new : State) (changes : List CellChange) : Type 0 where
  pub was_open : IsTrue old.is_open
  pub is_open : IsTrue new.is_open
  pub committed : new.committed ≡ new.now
  pub holds : HoldsCells new.now
  pub tables : tables_of new.now ≡ tables_after changes (tables_of old.now)

-- the trees of a database that stands for such tables
abbrev pub Leaves : (Tables → Type 0) → Trees → Type 0
Leaves Stands trees = (db : Database) × HoldsCells db × Stands (tables_of db) × (trees ≡ db.trees)

-- the table was made, within a transaction
pub record Makes (old new : State) : Type 0 where
  pub was_open : IsTrue old.is_open
  pub is_open : IsTrue new.is_open
  pub inside : IsTrue new.in_transaction
  pub committed : new.committed ≡ old.committed
  pub holds : HoldsCells new.now
  pub empty : tables_of new.now ≡ (λ t. [])

-- the table was made and committed, and is empty
pub record Made (old new : State) : Type 0 where
  pub was_open : IsTrue old.is_open
  pub is_open : IsTrue new.is_open
  pub committed : new.committed ≡ new.now
  pub holds : HoldsCells new.now
  pub empty : tables_of new.now ≡ (λ t. [])

-- ---- why a call fails

-- a fault of the disk, a store that was shut, or a limit on steps
abbrev pub IsFault : State → State → Type 0
IsFault old new = MoreFaults old.faults new.faults ⊎ ((old.is_open ≡ false) ⊎ IsSome old.step_limit)

-- why a call fails: want of memory, or a fault
abbrev pub IsExcused : State → State → Error → Type 0
IsExcused old new e = (e ≡ SqliteFailure code.OutOfMemory) ⊎ IsFault old new

-- ---- when a write has no cause to fail

-- this rowid and so many after it are numbers of 64 bits
abbrev pub IsFollowed : ℕ → ℤ → Type 0
IsFollowed count id = (n : ℕ) → n ≤ count → fits_i64 (id +ℤ pos n) ≡ true

-- so many new rows each find a rowid, which is one above the last, or 1 where there is no row
abbrev pub HasRowids : ℕ → List Row → Type 0
HasRowids count rows = IsFollowed count (pos 0) × AllByRecursion (λ r. IsFollowed count (id_in (rowid r))) rows

-- no more rowids than so many are gone
abbrev pub TakesRowids : State → State → ℕ → Type 0
TakesRowids old new count = (more : ℕ) → HasRowids (more + count) (old.now.trees 0) → HasRowids more (new.now.trees 0)

-- the row takes these cells beside those that it has
pub record CanAdd (s : State) (table : ℤ) (key : List ℕ) (cells : List Cell) : Type 0 where
  pub differ : ColumnsDiffer (content s.now table key ++ cells)
  pub short : AreShort key cells
  pub rowids : HasRowids (length cells) (s.now.trees 0)

-- how many cells changes have
abbrev pub cells_in_all : List CellChange → ℕ
cells_in_all = sum_by (λ (c : CellChange). length c.cells)

-- no change names a column twice, the database takes their bytes, and each of their cells finds a
-- rowid
pub record CanTake (db : Database) (changes : List CellChange) : Type 0 where
  pub differ : NameColumnsOnce changes
  pub short : AllByRecursion (λ (c : CellChange). AreShort c.row c.cells) changes
  pub rowids : HasRowids (cells_in_all changes) (db.trees 0)
