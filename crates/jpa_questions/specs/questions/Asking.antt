-- What a question leaves of a store, and when its revision is refused.
use Rattle.std.specs.Prelude.{◌≡◌, ◌⊎◌, ℕ, List, Result, Ok, Err}
use Rattle.sqlite_trees.specs.declared.store.Store.{Ghosts as StoreGhosts}
use Rattle.sqlite.specs.Held.{Held}
use Rattle.jpa_value.specs.declared.refusal.Cause.{Cause}
use Rattle.jpa_behaviour.specs.Behaviour.{World}
use Rattle.jpa_stored.specs.objects.Sets.{StoredSet}
use Rattle.jpa_cells.specs.meaning.Store.{Endures}
use Rattle.jpa_object_rows.specs.meaning.Sets.{rows_of}
use Rattle.jpa_rows.specs.declared.rows.reader.RowReader.{Ghosts}
use Rattle.jpa_rows.specs.declared.rows.schema.Schema.{Schema}
use Rattle.jpa_rows.specs.rows.Cells.{CanBeHeld}
use Rattle.jpa_rows.specs.rows.Faults.{IsStoreCause}
use Rattle.jpa_rows.specs.rows.Rows.{Rows}
use Rattle.jpa_rows.specs.rows.Statements.{IsAtMostOne}
use Rattle.jpa_rows.specs.rows.Tables.{schema_of}
use Rattle.jpa_cells.specs.rowspace.Space.{HoldsRows}
use Rattle.jpa_questions.specs.questions.Revisions.{IsOtherRevision}

-- a store of another revision is refused so, unless it is not read
abbrev pub RefusesRevision : {A : Type 0} → Result A Cause → Type 0
RefusesRevision (Ok x) = ⊥
RefusesRevision (Err cause) = IsStoreCause cause ⊎ IsOtherRevision cause

-- one row was looked at, at most, and then another one, and no table
pub record LooksAtTwoRows {S : Type 0} (store : Ghosts S) (old new : S) : Type 0 where
  pub between : ℕ
  pub first : IsAtMostOne (store.row_selects old) between
  pub second : IsAtMostOne between (store.row_selects new)
  pub tables : store.table_selects new ≡ store.table_selects old

module _ {S : Type 0} (g : StoreGhosts S) where
  -- the database has the rows of this set and these next numbers, which a store can hold
  pub record HoldsSet (world : World) (conn : Held S) (set : StoredSet) (numbers : List ℕ) : Type 0 where
    pub held : CanBeHeld world set numbers
    pub rows : HoldsRows g (schema_of world.model) conn (rows_of world set numbers)

  -- the database has the rows that it had, and a crash leaves what it left before: nothing was
  -- committed
  pub record LeavesRows (schema : Schema) (old new : Held S) : Type 0 where
    pub kept : (rows : Rows) → HoldsRows g schema old rows → HoldsRows g schema new rows
    pub crash : Endures g old new (λ _. ⊥)
