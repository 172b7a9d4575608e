-- What a look at a store of rows leaves of it, said once for each function on its way.
use Rattle.std.specs.Prelude.{◌≡◌, ℕ, Result}
use Rattle.jpa_value.specs.declared.refusal.Cause.{Cause}
use Rattle.jpa_rows.specs.declared.rows.reader.RowReader.{Ghosts}
use Rattle.jpa_rows.specs.rows.Looking.{Looks, LooksAtRow, LooksAtTable}
use Rattle.jpa_rows.specs.rows.Statements.{AreAtMost}

-- nothing but looks was done to a store, and this was answered
abbrev pub LooksOnly : {S A : Type 0} → Ghosts S → Result A Cause → S → S → Type 0
LooksOnly store answer old new =
    Looks store.schema store.holds store.clean store.faults store.writes store.endures answer old new

-- one row of it was looked at, at most, and no table
abbrev pub LooksAtOneRow : {S : Type 0} → Ghosts S → S → S → Type 0
LooksAtOneRow store old new = LooksAtRow store.row_selects store.table_selects old new

-- one table of it was looked at, at most, and no row
abbrev pub LooksAtOneTable : {S : Type 0} → Ghosts S → S → S → Type 0
LooksAtOneTable store old new = LooksAtTable store.row_selects store.table_selects old new

-- so many rows of it were looked at, at most, and no table
pub record LooksAtRows {S : Type 0} (store : Ghosts S) (most : ℕ) (old new : S) : Type 0 where
  pub rows : AreAtMost most (store.row_selects old) (store.row_selects new)
  pub tables : store.table_selects new ≡ store.table_selects old
