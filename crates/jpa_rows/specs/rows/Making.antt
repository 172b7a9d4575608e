-- What one commit does to the rows of a store, said of the parts of a store, so that the store itself can promise it.
use Rattle.std.specs.Prelude.{◌≡◌, ℕ, Result, OnOk, OnErr}
use Rattle.jpa_rows.specs.declared.rows.schema.Schema.{Schema}
use Rattle.jpa_rows.specs.rows.Rows.{Rows}

-- where it is done, a store of the first rows holds the second; else it holds what it held. A crash
-- leaves what it could leave before, or the second rows; nothing is read and nothing made for it to
-- stand in, no fault is forgotten, and there are so many of its own as are told
pub record Makes {S A E : Type 0} (schema : S → Schema) (holds : S → Rows → Type 0) (clean : S → Type 0)
    (faults reads creates : S → ℕ) (endures : S → S → (Rows → Type 0) → Type 0) (faults_then : ℕ → ℕ)
    (answer : Result A E) (before made : Rows) (old new : S) : Type 0 where
  pub done : OnOk answer (holds old before → holds new made)
  pub kept : OnErr answer ((rows : Rows) → holds old rows → holds new rows)
  pub crash : holds old before → endures old new (λ left. left ≡ made)
  pub was_clean : clean new → clean old
  pub same : schema new ≡ schema old
  pub unread : reads new ≡ reads old
  pub unmade : creates new ≡ creates old
  pub told : faults new ≡ faults_then (faults old)
