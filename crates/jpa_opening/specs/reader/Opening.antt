-- What the opening of a store answers, what it refuses, and what it leaves, as its steps do.
use Rattle.std.specs.Prelude.{◌≡◌, ◌⊎◌, ◌+◌, ℕ, List, [], length, Result, Err, None, OnErr}
use Rattle.sqlite_trees.specs.declared.store.Store.{Ghosts}
use Rattle.jpa_value.specs.declared.refusal.Cause.{Cause}
use Rattle.jpa_behaviour.specs.Behaviour.{World}
use Rattle.jpa_description.specs.declared.history.history.History.{History}
use Rattle.jpa_cells.specs.declared.meaning.CellChange.{CellChange}
use Rattle.jpa_cells.specs.meaning.Store.{up_to_greatest, faults_after, IsClean, IsOpen, tables_in, Keeps, Becomes}
use Rattle.jpa_cells.specs.meaning.Store.{Endures, HasFault}
use Rattle.jpa_rows.specs.rows.Cells.{CanBeHeld, StandFor}
use Rattle.jpa_rows.specs.rows.Tables.{schema_of}
use Rattle.jpa_cells.specs.rowspace.Space.{Space, HoldsRows, IsStoreCause}
use Rattle.jpa_object_rows.specs.meaning.Sets.{rows_of}
use Rattle.jpa_opening.specs.migration.Migration.{opened_tables}
use Rattle.jpa_opening.specs.reader.Damage.{cells_in, AreDamagedAt}
use Rattle.jpa_opening.specs.reader.Opened.{AreFound, MakesOpened, HaveCommitted, IsMigrated, AllowsDue, CountsDue}
use Rattle.jpa_opening.specs.declared.reader.judge.Committed.{Committed}
use Rattle.jpa_opening.specs.declared.reader.read.Found.{Found}

module _ {S : Type 0} (g : Ghosts S) (world : World) (h : History) where
  -- ---- what is answered

  -- The tables with these numbers were read as the unit opens them, each by one SELECT, up to a row
  -- that is ill-formed; and with revision 1 nothing is to be written.
  pub record ReadsTables (old new : Space S) (numbers : List ℕ) (read : Found) : Type 0 where
    pub found : IsClean g new.store.conn → AreFound world h old.schema (tables_in g old.store.conn) numbers read
    pub first : world.model.revision ≡ 1 → read.changes ≡ []
    pub live : IsClean g new.store.conn → IsOpen g old.store.conn × IsOpen g new.store.conn
    pub counted : read.end ≡ None →
        new.store.table_selects ≡ up_to_greatest (old.store.table_selects + length numbers)

  -- All tables were read so, the set and the next numbers are those that they stand for, and these
  -- changes make the tables so.
  pub record ReadsStore (old new : Space S) (c : Committed) (made : List CellChange) : Type 0 where
    pub can_be_held : CanBeHeld world c.set c.numbers
    pub committed : IsClean g new.store.conn →
        HaveCommitted world (opened_tables world h (tables_in g old.store.conn)) c
    pub changes : IsClean g new.store.conn → MakesOpened world h (tables_in g old.store.conn) made
    pub first : world.model.revision ≡ 1 → made ≡ []
    pub live : IsClean g new.store.conn → IsOpen g old.store.conn × IsOpen g new.store.conn
    pub counted : new.store.table_selects
        ≡ up_to_greatest (old.store.table_selects + length (schema_of world.model).tables)

  -- The store was opened: the tables are made as the unit opens them, they stand for the set and
  -- the next numbers, which can be held, and what was run for it is counted.
  pub record OpensStore (old new : Space S) (c : Committed) : Type 0 where
    pub can_be_held : CanBeHeld world c.set c.numbers
    pub holds : IsClean g new.store.conn → CanBeHeld world c.set c.numbers
        × HoldsRows g (schema_of world.model) new.store.conn (rows_of world c.set c.numbers)
    pub stand : IsClean g new.store.conn → IsOpen g new.store.conn →
        StandFor world (cells_in world (tables_in g new.store.conn)) c.set c.numbers
    pub opens : Becomes g old.store.conn new.store.conn (opened_tables world h)
    pub counted : new.store.table_selects
        ≡ up_to_greatest (old.store.table_selects + length (schema_of world.model).tables)
    pub written : CountsDue g world h old new

  -- ---- what is refused

  -- For want of memory, by a fault, or since the tables stand for no set as the unit opens them,
  -- and then this place is told and the connection is open.
  pub record RefusesStore (old new : Space S) (told : Cause) : Type 0 where
    pub refused : IsStoreCause told
        ⊎ ((t : ℕ) × (bytes : List ℕ) × (told ≡ Cause.Damaged t bytes)
        × (IsClean g new.store.conn →
        AreDamagedAt world (opened_tables world h (tables_in g new.store.conn)) t bytes))
    pub live : IsClean g new.store.conn → (t : ℕ) (bytes : List ℕ) → told ≡ Cause.Damaged t bytes →
        IsOpen g old.store.conn × IsOpen g new.store.conn

  -- ---- what is left

  -- Whatever the opening answers: refused, the tables are as they were; a fault is counted and,
  -- where nothing else stands against the changes that are due, has a cause; nothing else of the
  -- store is changed; and a crash leaves what was before or the whole migration, where it was due.
  pub record LeavesStore {T : Type 0} (old new : Space S) (result : Result T Cause) : Type 0 where
    pub kept : OnErr result (Keeps g old.store.conn new.store.conn)
    pub told : new.store.faults ≡ faults_after result old.store.faults
    pub cause : IsClean g new.store.conn → AllowsDue g world h old.store.conn → result ≡ Err Cause.StoreFault →
        HasFault g old.store.conn new.store.conn
    pub others : new ≡ record old {
      store = record old.store {
        conn = new.store.conn;
        table_selects = new.store.table_selects;
        writes = new.store.writes;
        faults = new.store.faults;
      };
    }
    pub crash : Endures g old.store.conn new.store.conn
        (λ tables. IsOpen g old.store.conn × IsMigrated world h (tables_in g old.store.conn) tables)
