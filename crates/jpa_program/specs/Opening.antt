-- What the opening of a store finds in it, and what it leaves of the connection.
use Rattle.std.specs.Prelude.{◌≡◌, ◌⊎◌, ℕ, true, false, List, [], length, sum_by}
use Rattle.sqlite_trees.specs.declared.store.Store.{Ghosts}
use Rattle.sqlite.specs.Held.{Held, state}
use Rattle.jpa_value.specs.declared.refusal.Cause.{Cause}
use Rattle.jpa_model.specs.declared.unit.PersistenceUnit.{PersistenceUnit}
use Rattle.jpa_behaviour.specs.Behaviour.{World}
use Rattle.jpa_behaviour.specs.Registered.{Meaning}
use Rattle.jpa_behaviour.specs.Served.{world_of_unit}
use Rattle.jpa_behaviour.specs.declared.served_unit.ServedUnit.{ServedUnit}
use Rattle.jpa_json.specs.functions.Known.{names_are_known}
use Rattle.jpa_description.specs.declared.history.history.History.{History}
use Rattle.jpa_stored.specs.objects.Sets.{StoredSet}
use Rattle.jpa_rows.specs.rows.Cells.{CanBeHeld, StandFor}
use Rattle.jpa_rows.specs.rows.Tables.{schema_of}
use Rattle.jpa_object_rows.specs.meaning.Sets.{rows_of}
use Rattle.jpa_cells.specs.cells.Calls.{EnduresMaking}
use Rattle.jpa_cells.specs.meaning.Schema.{no_schema}
use Rattle.jpa_cells.specs.meaning.Tables.{Tables, statements_of}
use Rattle.jpa_cells.specs.meaning.Store.{Stored, up_to_greatest, new_store, IsClean, IsOpen, IsOrderedIfFound}
use Rattle.jpa_cells.specs.meaning.Store.{HoldsTable, HasFault, Keeps, Opens, Endures, tables_in}
use Rattle.jpa_cells.specs.rowspace.Space.{Space, HoldsRows, IsStoreCause}
use Rattle.jpa_opening.specs.migration.Migration.{opened_tables, changes_due, defaults_pass}
use Rattle.jpa_opening.specs.reader.Damage.{cells_in, AreDamagedAt}
use Rattle.jpa_opening.specs.reader.Opened.{IsMigrated, AllowsDue}
use Rattle.jpa_opening.specs.declared.reader.judge.Committed.{Committed}

-- the tables of an empty database
abbrev pub no_rows : Tables
no_rows t = []

-- a store that has run so many SELECTs of a table and none of a row, so many statements that write,
-- and told no fault
abbrev pub having_opened : {S : Type 0} → Held S → ℕ → ℕ → ℕ → Stored S
having_opened conn creates selects writes =
    record (new_store conn creates) { table_selects = up_to_greatest selects; writes = up_to_greatest writes }

module _ {S : Type 0} (g : Ghosts S) where
  -- what is found: the tables of the open connection, or none where the database is empty
  abbrev pub IsFoundIn : Held S → Tables → Type 0
  IsFoundIn old found =
      (IsOpen g old × (tables_in g old ≡ found)) ⊎ (((state g old).now.schema ≡ no_schema) × (found ≡ no_rows))

  -- the table was there, or it was made in an empty database. By its counts the store has since run
  -- so many SELECTs of a table and statements that write, and no others
  abbrev pub OpensWriting : Held S → Stored S → ℕ → ℕ → Type 0
  OpensWriting old store selects writes =
      ((store ≡ having_opened store.conn 0 selects writes) × HoldsTable g old)
      ⊎ ((store ≡ having_opened store.conn 1 selects writes) × ((state g old).now.schema ≡ no_schema))

  -- the tables are as they were, or the database was empty and has the empty table now
  abbrev pub KeepsOrMakes : Held S → Held S → Type 0
  KeepsOrMakes old new = Keeps g old new
      ⊎ (((state g old).now.schema ≡ no_schema) × (IsClean g new → IsOpen g new → tables_in g new ≡ no_rows))

  -- ---- the rows over the cells of a database, which are not read yet

  -- they are those of the unit's tables; the table of cells was there or it was made, and a crash
  -- leaves what it left before or the empty table
  pub record AreOver (m : PersistenceUnit) (old : Held S) (space : Space S) : Type 0 where
    pub schema : space.schema ≡ schema_of m
    pub opens : Opens g old space.store
    pub crash : EnduresMaking g old space.store.conn

  -- Or there are none, for want of memory or by a fault, and a table of cells that was found is no
  -- fault: the tables are as they were, and the connection can be opened again.
  pub record RefusesRows (old : Held S) (handed : Cause × Held S) : Type 0 where
    pub refused : IsStoreCause handed.0
    pub takes : handed.0 ≡ Cause.StoreFault → old.in_transaction ≡ false → HoldsTable g old → ⊥
    pub kept : Keeps g old handed.1
    pub crash_err : EnduresMaking g old handed.1
    pub again : IsOrderedIfFound g handed.1

  -- ---- what they are read as

  -- over a clean disk an open connection has cells that stand for the set and the next numbers
  abbrev pub HoldsCells : World → Held S → StoredSet → List ℕ → Type 0
  HoldsCells world conn set numbers =
      IsClean g conn → IsOpen g conn → StandFor world (cells_in world (tables_in g conn)) set numbers

  -- the set and the next numbers can be held, and over a clean disk the rows of the unit's tables
  -- are theirs, and so are their cells
  pub record HasCommitted (world : World) (space : Space S) (c : Committed) : Type 0 where
    pub schema : space.schema ≡ schema_of world.model
    pub held : CanBeHeld world c.set c.numbers
    pub holds : IsClean g space.store.conn →
        HoldsRows g (schema_of world.model) space.store.conn (rows_of world c.set c.numbers)
    pub stand : HoldsCells world space.store.conn c.set c.numbers

  module _ (world : World) (h : History) where
    -- the tables are those that were found, or the database was empty, as the unit opens them
    abbrev pub Opened : Held S → Held S → Type 0
    Opened old new =
        (IsClean g new → IsOpen g new → IsOpen g old × (tables_in g new ≡ opened_tables world h (tables_in g old)))
        ⊎ (((state g old).now.schema ≡ no_schema)
        × (IsClean g new → IsOpen g new → tables_in g new ≡ opened_tables world h no_rows))

    -- a crash leaves what it left before, the empty table where the database was empty, or the whole
    -- migration of what was found, where one was due
    abbrev pub EnduresOpening : Held S → Held S → Type 0
    EnduresOpening old new =
        Endures g old new (λ tables. (((state g old).now.schema ≡ no_schema) × (tables ≡ no_rows))
        ⊎ ((found : Tables) × IsFoundIn old found × IsMigrated world h found tables))

    -- what is written are the changes that were due, and with revision 1 none
    pub record OpensCounting (old : Held S) (store : Stored S) (selects : ℕ) : Type 0 where
      pub writes : ℕ
      pub opens : OpensWriting old store selects writes
      pub first : world.model.revision ≡ 1 → writes ≡ 0
      pub due : IsClean g store.conn → (found : Tables) × IsFoundIn old found
          × (writes ≡ sum_by statements_of (changes_due world h found))

    -- over a clean disk the connection is open. Its cells stand for no set and next numbers as the
    -- unit opens them, and this is the place that is told
    abbrev pub IsDamage : Held S → Cause → Type 0
    IsDamage conn cause = (t : ℕ) × (bytes : List ℕ) × (cause ≡ Cause.Damaged t bytes)
        × (IsClean g conn → IsOpen g conn × AreDamagedAt world (opened_tables world h (tables_in g conn)) t bytes)

    -- want of memory, a fault of the store, or damaged cells
    abbrev pub IsOpenCause : Held S → Cause → Type 0
    IsOpenCause conn cause = IsStoreCause cause ⊎ IsDamage conn cause

    -- the tables are as they were, or empty where the database was; or memory was refused after
    -- the opening
    abbrev pub KeepsOrOpens : Held S → Cause → Held S → Type 0
    KeepsOrOpens old cause new = KeepsOrMakes old new ⊎ ((cause ≡ Cause.OutOfMemory) × Opened old new)

    -- ---- what the opening answers

    -- The database was opened: over a clean disk its connection is open, its tables are what the
    -- unit opens them as, and what was run for it is counted; a crash leaves one of these.
    pub record OpensDatabase (old : Held S) (store : Stored S) : Type 0 where
      pub live : IsClean g store.conn → IsOpen g store.conn
      pub opens : Opened old store.conn
      pub crash : EnduresOpening old store.conn
      pub counted : OpensCounting old store (length (schema_of world.model).tables)

  -- What a refused opening of a unit hands back. Where each function is registered and no converter
  -- throws for a default it is refused for want of memory, by a fault or as damaged, and a fault
  -- has a cause where nothing else stands against it. The tables are kept as `Kept` says, a crash
  -- leaves what an opening does, and the connection can be opened again.
  pub record RefusesOpening {B L C : Type 0} (meaning : Meaning L C) (unit : ServedUnit B L C) (h : History)
      (Kept : Cause → Held S → Type 0) (old : Held S) (handed : Cause × Held S) : Type 0 where
    pub refused : names_are_known unit.registry unit.metamodel ≡ true →
        defaults_pass (world_of_unit meaning unit) h ≡ true →
        IsOpenCause (world_of_unit meaning unit) h handed.1 handed.0
    pub cause : handed.0 ≡ Cause.StoreFault → IsClean g handed.1 → old.in_transaction ≡ false → HoldsTable g old →
        AllowsDue g (world_of_unit meaning unit) h old → HasFault g old handed.1
    pub kept : Kept handed.0 handed.1
    pub crash_err : EnduresOpening (world_of_unit meaning unit) h old handed.1
    pub again : IsOrderedIfFound g handed.1
