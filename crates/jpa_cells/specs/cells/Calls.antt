-- What a call leaves of a store of cells, said once for the calls that leave the like.
use Rattle.std.specs.Prelude.{◌≡◌, ◌⊎◌, ◌+◌, ◌<◌, ⊤, ℕ, ℤ, false, List, [], length, IsTrue, Result, Err}
use Rattle.std.specs.Prelude.{IfErr, OnOk, OnErr}
use Rattle.sqlite_trees.specs.declared.store.Store.{Ghosts}
use Rattle.sqlite.specs.Held.{Held, state}
use Rattle.sqlite.specs.State.{State, KeepsCommit, Survives}
use Rattle.sqlite.specs.declared.error.Error.{Error}
use Rattle.jpa_value.specs.declared.refusal.Cause.{Cause}
use Rattle.jpa_value.specs.declared.refusal.Cause.TheVariants as cause
use Rattle.jpa_cells.specs.declared.meaning.CellRow.{CellRow}
use Rattle.jpa_cells.specs.declared.meaning.CellChange.{CellChange}
use Rattle.jpa_cells.specs.meaning.Tables.{Tables, AreRows, tables_after}
use Rattle.jpa_cells.specs.meaning.Schema.{no_schema}
use Rattle.jpa_cells.specs.meaning.Content.{KeepsContent, IsExcused, Leaves}
use Rattle.jpa_cells.specs.meaning.Store.{Stored, up_to_greatest, Tells, IsStoreCause, faults_after, IsClean, IsOpen}
use Rattle.jpa_cells.specs.meaning.Store.{tables_in, IsReady, IsOrderedIfFound, Keeps, Becomes, Opens}
use Rattle.jpa_cells.specs.meaning.Store.{Endures, HasFault, FaultHasCause, Allows}

-- which SELECT: that of the cells of a row, or that of the rows of a table
pub data Select : Type 0 where
  OfRow : Select
  OfTable : Select

-- how often a store has run it
abbrev pub runs : {S : Type 0} → Select → Stored S → ℕ
runs OfRow s = s.row_selects
runs OfTable s = s.table_selects

-- the store with this count of it
abbrev pub with_runs : {S : Type 0} → Select → ℕ → Stored S → Stored S
with_runs OfRow n s = record s { row_selects = n }
with_runs OfTable n s = record s { table_selects = n }

module _ {S : Type 0} (g : Ghosts S) where
  -- ---- what a connection is to be

  -- it is in no transaction, and holds nothing but tables of cells
  pub record IsIdle (conn : Held S) : Type 0 where
    pub idle : conn.in_transaction ≡ false
    pub cells : IsReady g conn

  -- over a clean disk it is in a transaction, and it holds nothing but tables of cells
  pub record IsInside (conn : Held S) : Type 0 where
    pub inside : IsClean g conn → IsTrue (state g conn).in_transaction
    pub cells : IsReady g conn

  -- ---- what a statement leaves of it

  -- What a SELECT leaves: it is in no transaction, and its content is as it was. A refusal is for want of memory or has
  -- a fault as its cause, and a crash leaves nothing else.
  pub record Selects {T : Type 0} (old new : Held S) (result : Result T Error) : Type 0 where
    pub idle : new.in_transaction ≡ false
    pub kept : KeepsContent (state g old) (state g new)
    pub cause : IsClean g new → IfErr result (IsExcused (state g old) (state g new))
    pub survives : Survives (state g old) (state g new) (Leaves (λ _. ⊥))

  -- What statements within a transaction leave, where nothing but a fault stands against them if they can be: they are
  -- done, or the transaction can be given up; and a crash leaves nothing of them.
  pub record Performs {T : Type 0} (Done : State → State → Type 0) (Can : Type 0) (old new : Held S)
      (result : Result T Error) : Type 0 where
    pub done : IsClean g new → OnOk result (Done (state g old) (state g new))
    pub kept : IsClean g new → OnErr result (KeepsCommit (state g old) (state g new))
    pub survives : Survives (state g old) (state g new) (λ _. ⊥)
    pub cause : IsClean g new → Can → IfErr result (IsExcused (state g old) (state g new))

  -- What a transaction of its own leaves: it is ended, its statements are done or the content is as it was, and a crash
  -- leaves what was before or these tables.
  pub record Commits {T : Type 0} (Done : State → State → Type 0) (Left : Tables → Type 0) (old new : Held S)
      (result : Result T Error) : Type 0 where
    pub idle : new.in_transaction ≡ false
    pub done : IsClean g new → OnOk result (Done (state g old) (state g new))
    pub kept : OnErr result (KeepsContent (state g old) (state g new))
    pub crash : Survives (state g old) (state g new) (Leaves Left)

  -- ---- what an opening answers

  -- a crash leaves what it left before, or the empty tables, and these in an empty database alone
  abbrev pub EnduresMaking : Held S → Held S → Type 0
  EnduresMaking old new =
      Endures g old new (λ tables. ((state g old).now.schema ≡ no_schema) × (tables ≡ (λ t. [])))

  -- the table was there or it was made, and a crash leaves what was before or, in an empty
  -- database, the empty tables
  pub record IsOpened (old : Held S) (store : Stored S) : Type 0 where
    pub opens : Opens g old store
    pub crash : EnduresMaking old store.conn

  -- What a refused opening hands back: the content is as it was, the connection is in a transaction only where it was,
  -- and it can be opened again. Memory was wanted only where the table was to be made.
  pub record IsRefused (old : Held S) (refused : Cause × Held S) : Type 0 where
    pub told : IsStoreCause refused.0
    pub memory : refused.0 ≡ cause.OutOfMemory → (old.in_transaction ≡ false) × ((state g old).now.schema ≡ no_schema)
    pub kept : Keeps g old refused.1
    pub kept_content : KeepsContent (state g old) (state g refused.1)
    pub idle : (refused.1).in_transaction ≡ old.in_transaction
    pub again : IsOrderedIfFound g refused.1
    pub crash : EnduresMaking old refused.1

  -- ---- what a call leaves of a store

  -- they are the rows of a table, and are as rows are to be
  pub record IsTable (conn : Held S) (table : ℤ) (found : List CellRow) : Type 0 where
    pub rows : found ≡ tables_in g conn table
    pub rise : AreRows found

  -- What a call that runs one SELECT at most leaves of a store: the content is as it was, a fault is counted and has a
  -- cause, nothing else of the store is changed, and a crash leaves nothing else.
  pub record Looks {T : Type 0} (select : Select) (old new : Stored S) (result : Result T Cause) : Type 0 where
    pub kept : Keeps g old.conn new.conn
    pub kept_content : KeepsContent (state g old.conn) (state g new.conn)
    pub at_most_one : (runs select new ≡ runs select old) ⊎ (runs select new ≡ up_to_greatest (runs select old + 1))
    pub told : new.faults ≡ faults_after result old.faults
    pub cause : FaultHasCause g result old.conn new.conn
    pub others : new ≡ record (with_runs select (runs select new) old) { conn = new.conn; faults = new.faults }
    pub crash : Endures g old.conn new.conn (λ _. ⊥)

  -- What a list of changes makes of a store: all are made or none, a fault is counted and, where nothing else stands
  -- against them, has a cause; and a crash leaves what was before or the tables with all of them made.
  pub record Applies (changes : List CellChange) (old new : Stored S) (result : Result ⊤ Cause) : Type 0 where
    pub applied : 0 < length changes → OnOk result (Becomes g old.conn new.conn (tables_after changes))
    pub kept : OnErr result (Keeps g old.conn new.conn)
    pub told : Tells result old.faults new.faults
    pub cause : IsClean g new.conn → Allows g old.conn changes → result ≡ Err cause.StoreFault →
        HasFault g old.conn new.conn
    pub others : new ≡ record old { conn = new.conn; writes = new.writes; faults = new.faults }
    pub crash : Endures g old.conn new.conn
        (λ tables. IsOpen g old.conn × (tables ≡ tables_after changes (tables_in g old.conn)))
