-- What is read of a store, one table after another, and the place that is told of what was read.
use Rattle.std.specs.Prelude.{◌≡◌, ◌⊎◌, ◌<◌, ℕ, pos, true, ◌==◌, List, [], ◌∷◌, ◌++◌, length, map, Option, Some, None}
use Rattle.std.specs.Prelude.{is_some, Result, Err, IfErr}
use Rattle.std.specs.List.{AllByRecursion, list_any}
use Rattle.std.specs.List.Sorted.{IsPermutation}
use Rattle.sqlite.specs.Held.{state}
use Rattle.sqlite_trees.specs.declared.store.Store.{Ghosts}
use Rattle.sqlite_trees.specs.Tree.{IsAscending}
use Rattle.jpa_value.specs.declared.refusal.Cause.{Cause}
use Rattle.jpa_rows.specs.keys.Keys.{key_bytes}
use Rattle.jpa_behaviour.specs.Behaviour.{World}
use Rattle.jpa_rows.specs.declared.rows.schema.Schema.{Schema}
use Rattle.jpa_rows.specs.declared.rows.schema.TableRule.{TableRule}
use Rattle.jpa_rows.specs.rows.Rows.{RowId, Row, Rows, AreRising, table_of, table_rows}
use Rattle.jpa_cells.specs.meaning.Content.{KeepsContent}
use Rattle.jpa_cells.specs.meaning.Tables.{Tables, AreRows}
use Rattle.jpa_cells.specs.meaning.Store.{Tells, IsClean, Keeps, Endures, HasFault}
use Rattle.jpa_cells.specs.rowspace.Reading.{AreRead, IsReadBy}
use Rattle.jpa_cells.specs.rowspace.Space.{Space, IsStoreCause}
use Rattle.jpa_opening.specs.reader.Sound.{IsSoundRow, AreSoundRows}
use Rattle.jpa_opening.specs.reader.Judged.{AreOfNone}

-- numbers rise strictly
abbrev pub IsRising : List ℕ → Type 0
IsRising = IsAscending (λ a b. a < b)

-- these are the numbers of the schema's tables
pub record AreNumbersOf (schema : Schema) (numbers : List ℕ) : Type 0 where
  pub rising : IsRising numbers
  pub same : (n : ℕ) → list_any (λ t. t == n) numbers ≡ is_some (table_of schema n)
  pub all : length numbers ≡ length schema.tables
  pub order : IsPermutation (map (λ t. t.table) schema.tables) numbers

-- ---- what is read

-- the rows of these tables and of no others, each table read whole
pub record AreReadWhole (schema : Schema) (tables : Tables) (numbers : List ℕ) (rows : Rows) : Type 0 where
  pub rising : AreRising rows
  pub within : AllByRecursion (λ e. list_any (λ t. t == (e.0).table) numbers ≡ true) rows
  pub each : AllByRecursion (λ n. IsReadBy (table_of schema n) (tables (pos n)) (table_rows n rows)) numbers

-- those of the first tables, and those of the next one up to a row that is ill-formed, which has
-- these bytes
pub record AreReadInto (schema : Schema) (tables : Tables) (numbers : List ℕ) (rows : Rows) (table : ℕ)
    (bytes : List ℕ) : Type 0 where
  pub front : List ℕ
  pub back : List ℕ
  pub order : numbers ≡ front ++ table ∷ back
  pub whole : Rows
  pub part : Rows
  pub both : rows ≡ whole ++ part
  pub read : AreReadWhole schema tables front whole
  pub rule : TableRule
  pub own : table_of schema table ≡ Some rule
  pub rise : AreRows (tables (pos table))
  pub rising : AreRising part
  pub stopped : AreRead rule (tables (pos table)) part (Some bytes)

-- one table after another: all, or up to the first row that is ill-formed
abbrev pub AreReadUpTo : Schema → Tables → List ℕ → Rows → Option (ℕ × List ℕ) → Type 0
AreReadUpTo schema tables numbers rows None = AreReadWhole schema tables numbers rows
AreReadUpTo schema tables numbers rows (Some at) = AreReadInto schema tables numbers rows at.0 at.1

-- ---- what is told

-- the first row that is not sound has this table and these bytes
pub record IsFirstUnsound (world : World) (rows : Rows) (table : ℕ) (bytes : List ℕ) : Type 0 where
  pub front : Rows
  pub id : RowId
  pub row : Row
  pub back : Rows
  pub split : rows ≡ front ++ (id, row) ∷ back
  pub sound : AreSoundRows world front
  pub damaged : IsSoundRow world id row → ⊥
  pub own : id.table ≡ table
  pub named : key_bytes id.key ≡ bytes

-- where each row is sound: the row that ended the reading; else the place of none, as the rows are
-- those of no set
abbrev pub TellsEnd : World → Rows → Option (ℕ × List ℕ) → ℕ → List ℕ → Type 0
TellsEnd world rows None table bytes = (table ≡ 0) × (bytes ≡ []) × AreOfNone world rows
TellsEnd world rows (Some at) table bytes = (table ≡ at.0) × (bytes ≡ at.1) × AreSoundRows world rows

-- the place that is told: the first row that is not sound, else what ended the reading
abbrev pub IsTold : World → Rows → Option (ℕ × List ℕ) → ℕ → List ℕ → Type 0
IsTold world rows end table bytes = IsFirstUnsound world rows table bytes ⊎ TellsEnd world rows end table bytes

-- ---- what a reading leaves

-- the tables are as they were, and how the database holds them, and so is what is counted apart
-- from SELECTs and faults
pub record KeepsTables {S : Type 0} (g : Ghosts S) (old new : Space S) : Type 0 where
  pub kept : Keeps g old.store.conn new.store.conn
  pub content : KeepsContent (state g old.store.conn) (state g new.store.conn)
  pub crash : Endures g old.store.conn new.store.conn (λ _. ⊥)
  pub others : new ≡ record old {
    store = record old.store {
      conn = new.store.conn;
      table_selects = new.store.table_selects;
      faults = new.store.faults;
    };
  }

-- Whatever a reading of tables answers: it is refused for want of memory or by a fault alone, a
-- fault is counted and has a cause, and the tables are kept.
pub record ReadsOnly {S T : Type 0} (g : Ghosts S) (old new : Space S) (result : Result T Cause) : Type 0 where
  pub refused : IfErr result IsStoreCause
  pub told : Tells result old.store.faults new.store.faults
  pub cause : IsClean g new.store.conn → result ≡ Err Cause.StoreFault → HasFault g old.store.conn new.store.conn
  pub keeps : KeepsTables g old new
