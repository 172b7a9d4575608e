-- A store of cells, in the words of the layers above it: which tables a connection stands for, and
-- what a call leaves of them.
use Rattle.std.specs.Prelude.{◌≡◌, ◌⊎◌, ◌+◌, ◌-◌, ◌^◌, ◌≤◌, min, ℕ, ℤ, Bool, false, List, [], IsTrue, Result, Ok, Err}
use Rattle.std.specs.Prelude.{IsErr, OnOk, refl}
use Rattle.std.specs.Coded.{Coded, code_by, coded×, coded_ℕ}
use Rattle.sqlite_trees.specs.declared.store.Store.{Ghosts}
use Rattle.sqlite.specs.Held.{Held, held_code, state}
use Rattle.sqlite.specs.State.{HasCleanDisk, Survives}
use Rattle.jpa_value.specs.declared.refusal.Cause.{Cause}
use Rattle.jpa_value.specs.declared.refusal.Cause.TheVariants as cause
use Rattle.jpa_rows.specs.laws.Handing.{Hands}
use Rattle.jpa_cells.specs.declared.meaning.CellRow.{CellRow}
use Rattle.jpa_cells.specs.declared.meaning.CellChange.{CellChange}
use Rattle.jpa_cells.specs.meaning.Tables.{Tables}
use Rattle.jpa_cells.specs.meaning.Schema.{cell_schema, no_schema}
use Rattle.jpa_cells.specs.meaning.Content.{AreInOrder, IsCellStore, CanTake, KeepsContent, IsFault as Faults, Leaves}
use Rattle.jpa_cells.specs.meaning.Content.{tables_of}

-- the connection, and how often each kind of statement was run and a statement was refused
pub record Stored (S : Type 0) : Type 0 where
  pub conn : Held S
  pub row_selects : ℕ
  pub table_selects : ℕ
  pub writes : ℕ
  -- 1 where the opening made the table
  pub creates : ℕ
  -- the refusals for another cause than memory
  pub faults : ℕ

-- a store of cells has a code where its connection has one
abbrev pub stored_code : {S : Type 0} → Coded S → Coded (Stored S)
stored_code {S} store =
    code_by (Held S × (ℕ × (ℕ × (ℕ × (ℕ × ℕ)))))
    (coded× (held_code store) (coded× coded_ℕ (coded× coded_ℕ (coded× coded_ℕ (coded× coded_ℕ coded_ℕ)))))
    (λ s. (s.conn, (s.row_selects, (s.table_selects, (s.writes, (s.creates, s.faults))))))
    (λ p. record {
      conn = p.0;
      row_selects = p.1.0;
      table_selects = p.1.1.0;
      writes = p.1.1.1.0;
      creates = p.1.1.1.1.0;
      faults = p.1.1.1.1.1;
    })
    (λ _. refl)

-- a count in 64 bits, which stays at its greatest value
abbrev pub up_to_greatest : ℕ → ℕ
up_to_greatest n = min n (2 ^ 64 - 1)

-- all of so many statements ran, or on a refusal some of them
abbrev pub Counts : {T E : Type 0} → Result T E → ℕ → ℕ → ℕ → Type 0
Counts r old new statements =
    OnOk r (new ≡ up_to_greatest (old + statements)) × (old ≤ new) × (new ≤ up_to_greatest (old + statements))

-- want of memory, or a fault of the store, which alone is counted
abbrev pub TellsOf : Cause → ℕ → ℕ → Type 0
TellsOf cause.OutOfMemory old new = new ≡ old
TellsOf cause.StoreFault old new = new ≡ up_to_greatest (old + 1)
TellsOf _ old new = ⊥

-- no fault is counted, or the refusal tells of it
abbrev pub Tells : {T : Type 0} → Result T Cause → ℕ → ℕ → Type 0
Tells (Ok _) old new = new ≡ old
Tells (Err e) old new = TellsOf e old new

-- a store that has run none of its four statements
abbrev pub new_store : {S : Type 0} → Held S → ℕ → Stored S
new_store conn creates =
    record { conn = conn; row_selects = 0; table_selects = 0; writes = 0; creates = creates; faults = 0 }

-- want of memory, or a fault of the store
abbrev pub IsStoreCause : Cause → Type 0
IsStoreCause c = (c ≡ cause.OutOfMemory) ⊎ (c ≡ cause.StoreFault)

-- a fault of the store is counted, and no other refusal
abbrev pub faults_after : {T : Type 0} → Result T Cause → ℕ → ℕ
faults_after (Err cause.StoreFault) faults = up_to_greatest (faults + 1)
faults_after _ faults = faults

module _ {S : Type 0} (g : Ghosts S) where
  -- so far the disk has returned what was written
  abbrev pub IsClean : Held S → Type 0
  IsClean conn = HasCleanDisk (state g conn)

  -- no fault has shut it
  abbrev pub IsOpen : Held S → Type 0
  IsOpen conn = IsTrue (state g conn).is_open

  -- the tables that an open connection stands for
  abbrev pub tables_in : Held S → Tables
  tables_in conn = tables_of (state g conn).now

  -- an open connection over a clean disk holds nothing but tables of cells
  abbrev pub IsReady : Held S → Type 0
  IsReady conn = IsCellStore (state g conn)

  -- A table that is found in the database has the order of its rowids, as each store keeps it.
  abbrev pub IsOrderedIfFound : Held S → Type 0
  IsOrderedIfFound conn =
      IsClean conn → IsOpen conn → (state g conn).now.schema ≡ cell_schema → AreInOrder ((state g conn).now.trees 0)

  -- the tables are as they were; of a connection that is shut nothing is said
  abbrev pub Keeps : Held S → Held S → Type 0
  Keeps old new = IsClean new → IsOpen new → IsOpen old × (tables_in new ≡ tables_in old)

  -- it was open and is, and has the tables that this makes of the old ones
  abbrev pub Becomes : Held S → Held S → (Tables → Tables) → Type 0
  Becomes old new change = IsClean new → IsOpen old × IsOpen new × (tables_in new ≡ change (tables_in old))

  -- the database is the table of cells and nothing else
  abbrev pub HoldsTable : Held S → Type 0
  HoldsTable conn = (state g conn).now.schema ≡ cell_schema

  -- the table was there, or it was made
  abbrev pub Opens : Held S → Stored S → Type 0
  Opens old store =
      ((store ≡ new_store old 0) × ((state g old).now.schema ≡ cell_schema))
      ⊎ ((store ≡ new_store store.conn 1) × ((state g old).now.schema ≡ no_schema)
      × (IsClean store.conn → IsOpen old × IsOpen store.conn × (tables_in store.conn ≡ (λ t. []))))

  -- No fault is forgotten, only a fault shuts the connection, and a crash leaves what it left
  -- before or such tables.
  abbrev pub Endures : Held S → Held S → (Tables → Type 0) → Type 0
  Endures old new Commits = Survives (state g old) (state g new) (Leaves Commits)

  -- a fault of the disk, a connection that was shut, or a limit on steps that the caller set
  abbrev pub HasFault : Held S → Held S → Type 0
  HasFault old new = Faults (state g old) (state g new)

  -- over a clean disk a StoreFault has a cause
  abbrev pub FaultHasCause : {T : Type 0} → Result T Cause → Held S → Held S → Type 0
  FaultHasCause result old new = IsClean new → result ≡ Err cause.StoreFault → HasFault old new

  -- over a clean disk a call that is answered found the connection open, and leaves it open
  abbrev pub StaysOpen : {T : Type 0} → Result T Cause → Held S → Held S → Type 0
  StaysOpen result old new = IsClean new → OnOk result (IsOpen old × IsOpen new)

  -- nothing but a fault stands against these changes
  abbrev pub Allows : Held S → List CellChange → Type 0
  Allows conn changes = CanTake (state g conn).now changes

  -- What a SELECT leaves: the connection is in no transaction, and open where it answers; its content is as it was, and
  -- a crash leaves nothing else. A StoreFault has a cause.
  pub record OnlyReads {T : Type 0} (old new : Held S) (result : Result T Cause) : Type 0 where
    pub idle : new.in_transaction ≡ false
    pub stays : StaysOpen result old new
    pub kept : KeepsContent (state g old) (state g new)
    pub cause : FaultHasCause result old new
    pub crash : Endures old new (λ _. ⊥)

  -- The rows of a table are handed on in their order, and a failure may come before each of them: none are where the
  -- connection was shut.
  abbrev pub HandsTable : {K : Type 0} → (K → CellRow → Result Bool Cause → K → Type 0) → (Cause → Type 0) → ℤ →
      Held S → Held S → K → Result Bool Cause → K → Type 0
  HandsTable Takes Fails table old new first result last = (rows : List CellRow)
      × (IsClean new → (IsOpen old × (rows ≡ tables_in old table)) ⊎ (IsErr result × (rows ≡ [])))
      × Hands Takes Fails first rows result last
