-- What a look at a store of rows leaves of it, said of the parts of a store, so that the store itself can promise it.
use Rattle.std.specs.Prelude.{◌≡◌, ℕ, Result}
use Rattle.jpa_value.specs.declared.refusal.Cause.{Cause}
use Rattle.jpa_rows.specs.declared.rows.schema.Schema.{Schema}
use Rattle.jpa_rows.specs.rows.Faults.{faults_after}
use Rattle.jpa_rows.specs.rows.Rows.{Rows}
use Rattle.jpa_rows.specs.rows.Statements.{IsAtMostOne}

-- the store holds what it held, and nothing was written; a crash leaves what it could leave before;
-- where it is clean it was so, and a fault of it is answered just where it counts one
pub record Looks {S A : Type 0} (schema : S → Schema) (holds : S → Rows → Type 0) (clean : S → Type 0)
    (faults writes : S → ℕ) (endures : S → S → (Rows → Type 0) → Type 0) (answer : Result A Cause)
    (old new : S) : Type 0 where
  pub kept : (rows : Rows) → holds old rows → holds new rows
  pub told : faults new ≡ faults_after answer (faults old)
  pub unwritten : writes new ≡ writes old
  pub crash : endures old new (λ _. ⊥)
  pub was_clean : clean new → clean old
  pub same : schema new ≡ schema old

-- one row was looked at, at most, and no table
pub record LooksAtRow {S : Type 0} (row_selects table_selects : S → ℕ) (old new : S) : Type 0 where
  pub row : IsAtMostOne (row_selects old) (row_selects new)
  pub tables : table_selects new ≡ table_selects old

-- one table was looked at, at most, and no row
pub record LooksAtTable {S : Type 0} (row_selects table_selects : S → ℕ) (old new : S) : Type 0 where
  pub table : IsAtMostOne (table_selects old) (table_selects new)
  pub rows : row_selects new ≡ row_selects old
