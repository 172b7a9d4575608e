-- What the tables of a store are to the unit that opens it: as they are found, or migrated, and
-- what was read of them so.
use Rattle.std.specs.Prelude.{◌≡◌, ◌+◌, ℕ, pos, Bool, true, false, ◌==◌, List, [], ◌++◌, Option, None, IfSome, sum_by}
use Rattle.std.specs.Prelude.{if◌then◌else◌}
use Rattle.std.specs.List.{AllByRecursion, flat_map}
use Rattle.std.specs.List.Sorted.{IsPermutation}
use Rattle.sqlite_trees.specs.declared.store.Store.{Ghosts}
use Rattle.sqlite.specs.Held.{Held}
use Rattle.jpa_model.specs.declared.unit.PersistenceUnit.{PersistenceUnit}
use Rattle.jpa_behaviour.specs.Behaviour.{World}
use Rattle.jpa_description.specs.declared.history.history.History.{History}
use Rattle.jpa_cells.specs.declared.meaning.CellRow.{CellRow}
use Rattle.jpa_cells.specs.declared.meaning.CellChange.{CellChange}
use Rattle.jpa_cells.specs.meaning.Tables.{Tables, AreRows, tables_after, statements_of}
use Rattle.jpa_cells.specs.meaning.Store.{up_to_greatest, IsClean, IsOpen, Allows, tables_in}
use Rattle.jpa_rows.specs.declared.rows.schema.Schema.{Schema}
use Rattle.jpa_rows.specs.rows.Cells.{StandFor}
use Rattle.jpa_rows.specs.rows.Rows.{Rows, AreRising, table_of}
use Rattle.jpa_rows.specs.rows.Tables.{schema_of}
use Rattle.jpa_cells.specs.rowspace.Reading.{AreRead}
use Rattle.jpa_cells.specs.rowspace.Space.{Space}
use Rattle.jpa_cells.specs.rowspace.Stored.{AreRowsOf, AreStored}
use Rattle.jpa_object_rows.specs.meaning.Sets.{rows_of}
use Rattle.jpa_opening.specs.migration.Migration.{is_due, rows_migrated, changes_made, opened_tables, changes_due}
use Rattle.jpa_opening.specs.reader.Damage.{cells_in}
use Rattle.jpa_opening.specs.reader.Reads.{AreReadUpTo}
use Rattle.jpa_opening.specs.declared.reader.judge.Committed.{Committed}
use Rattle.jpa_opening.specs.declared.reader.migration.Migration.{Migration}
use Rattle.jpa_opening.specs.declared.reader.read.Found.{Found}

-- ---- one table after another, table 0 first

-- table 0 tells whether the migration is due
abbrev pub due_after : PersistenceUnit → ℕ → List CellRow → Bool → Bool
due_after m table rows due = if table == 0 then is_due m rows else due

-- the rows of a table as the unit opens them, and the changes that make them so
abbrev pub rows_opened : World → History → Bool → ℕ → List CellRow → List CellRow
rows_opened world h due table rows = if due then rows_migrated world h (pos table) rows else rows

-- the changes of a table that the migration makes, where it is due
abbrev pub changes_opened : World → History → Bool → ℕ → List CellRow → List CellChange
changes_opened world h due table rows = if due then changes_made world h (pos table) rows else []

-- nothing is to be written
abbrev pub IsIdle : Migration → Type 0
IsIdle migration = (migration.is_due ≡ false) × (migration.changes ≡ [])

module _ {S : Type 0} (g : Ghosts S) (world : World) (h : History) where
  -- a table was read as the unit opens it, up to a row that is ill-formed
  pub record ReadsOpened (old new : Space S) (table : ℕ) (before after : Migration) (part : Rows)
      (stopped : Option (List ℕ)) : Type 0 where
    pub due : IsClean g new.store.conn →
        after.is_due ≡ due_after world.model table (tables_in g old.store.conn (pos table)) before.is_due
    pub changes : IsClean g new.store.conn → after.changes ≡ before.changes ++ changes_opened world h after.is_due table
        (tables_in g old.store.conn (pos table))
    pub found : IsClean g new.store.conn → AreRows (tables_in g old.store.conn (pos table))
    pub read : IsClean g new.store.conn → IfSome (table_of old.schema table)
        (λ rule. AreRead rule (rows_opened world h after.is_due table (tables_in g old.store.conn (pos table))) part
        stopped)
    pub rising : IsClean g new.store.conn → AreRising part
    pub live : IsClean g new.store.conn → IsOpen g old.store.conn × IsOpen g new.store.conn
    -- with revision 1 nothing is due
    pub first : world.model.revision ≡ 1 → IsIdle before → IsIdle after

-- ---- all tables

-- what is read of them, table by table
pub record AreFound (world : World) (h : History) (schema : Schema) (tables : Tables) (numbers : List ℕ)
    (found : Found) : Type 0 where
  pub read : AreReadUpTo schema (opened_tables world h tables) numbers found.rows found.end
  pub changes : found.end ≡ None →
      found.changes ≡ flat_map (λ n. changes_opened world h (is_due world.model (tables (pos 0))) n (tables (pos n)))
      numbers
  pub rows : found.end ≡ None → AllByRecursion (λ n. AreRows (tables (pos n))) numbers

-- the changes that are due, in some order, which make the tables those that are judged
pub record MakesOpened (world : World) (h : History) (tables : Tables) (changes : List CellChange) : Type 0 where
  pub due : IsPermutation (changes_due world h tables) changes
  pub makes : tables_after changes tables ≡ opened_tables world h tables

-- these tables have the rows of what is committed, and their cells stand for it
pub record HaveCommitted (world : World) (tables : Tables) (c : Committed) : Type 0 where
  pub named : AreRowsOf (schema_of world.model) (rows_of world c.set c.numbers)
  pub stored : AreStored (schema_of world.model) tables (rows_of world c.set c.numbers)
  pub stand : StandFor world (cells_in world tables) c.set c.numbers

-- ---- what an opening does to a store

-- the whole migration, where it was due
abbrev pub IsMigrated : World → History → Tables → Tables → Type 0
IsMigrated world h found left = (is_due world.model (found (pos 0)) ≡ true) × (left ≡ opened_tables world h found)

module _ {S : Type 0} (g : Ghosts S) (world : World) (h : History) where
  -- nothing but a fault stands against the changes that are due
  abbrev pub AllowsDue : Held S → Type 0
  AllowsDue conn = is_due world.model (tables_in g conn (pos 0)) ≡ true →
      Allows g conn (changes_due world h (tables_in g conn))

  -- the statements of the changes that are due are counted, and with revision 1 none
  pub record CountsDue (old new : Space S) : Type 0 where
    pub written : ℕ
    pub counted : new.store.writes ≡ up_to_greatest (old.store.writes + written)
    pub first : world.model.revision ≡ 1 → (written ≡ 0) × (new.store.writes ≡ old.store.writes)
    pub due : IsClean g new.store.conn →
        written ≡ sum_by statements_of (changes_due world h (tables_in g old.store.conn))
