-- A store of the rows of a schema, and what it is to hold rows.
use Rattle.std.specs.Prelude.{◌≡◌, ⊤, refl, Result, OnOk}
use Rattle.std.specs.Coded.{Coded, code_by, coded×}
use Rattle.sqlite_trees.specs.declared.store.Store.{Ghosts}
use Rattle.sqlite.specs.Held.{Held}
use Rattle.jpa_value.specs.declared.refusal.Cause.{Cause}
pub use Rattle.jpa_rows.specs.rows.Faults.{IsStoreCause}
use Rattle.jpa_rows.specs.declared.rows.schema.Schema.{Schema}
use Rattle.jpa_rows.specs.contracts.rows.schema.Schema as schema
use Rattle.jpa_rows.specs.rows.Rows.{Rows}
use Rattle.jpa_cells.specs.meaning.Store.{Stored, stored_code, IsClean, IsOpen, tables_in, Endures}
use Rattle.jpa_cells.specs.cells.Calls.{Select, Looks}
use Rattle.jpa_cells.specs.rowspace.Stored.{AreRowsOf, AreStored}

-- the tables and columns of the rows, and the store of their cells
pub record Space (S : Type 0) : Type 0 where
  pub schema : Schema
  pub store : Stored S

-- a store of rows has a code where its connection has one
abbrev pub space_code : {S : Type 0} → Coded S → Coded (Space S)
space_code {S} store =
    code_by (Schema × Stored S) (coded× schema.the_row.coded (stored_code store)) (λ s. (s.schema, s.store))
    (λ p. record { schema = p.0; store = p.1 }) (λ _. refl)

module _ {S : Type 0} (g : Ghosts S) where
  -- over a clean disk they are rows of the schema's tables, which an open connection has, and no
  -- other rows
  pub record HoldsRows (schema : Schema) (conn : Held S) (rows : Rows) : Type 0 where
    pub whole : IsClean g conn → AreRowsOf schema rows
    pub stored : IsClean g conn → IsOpen g conn → AreStored schema (tables_in g conn) rows

  -- What a call that runs one SELECT at most leaves of a store of rows: what it leaves of the store of their cells.
  pub record LooksIn {T : Type 0} (select : Select) (old new : Space S) (result : Result T Cause) : Type 0 where
    pub others : new ≡ record old { store = new.store }
    pub store : Looks g select old.store new.store result

  -- Of a store that holds rows a commit makes one that holds these, where it is accepted, and a crash leaves what was
  -- before or these.
  pub record CommitsRows (schema : Schema) (old new : Held S) (after : Rows) (result : Result ⊤ Cause) : Type 0 where
    pub holds : OnOk result (HoldsRows schema new after)
    pub crash : Endures g old new (λ tables. AreStored schema tables after)
