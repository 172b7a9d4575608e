-- What it is to take a row.
use Rattle.std.specs.Prelude.{◌≡◌, Bool, true, [], ◌∷◌, ◌++◌, Result, MatchResult}
use Rattle.jpa_value.specs.declared.refusal.Cause.{Cause}
use Rattle.jpa_value.specs.declared.refusal.Cause.TheVariants as cause
use Rattle.jpa_rows.specs.rows.Rows.{RowId, Row, Rows}

-- the row is put behind those that were taken, and more are wanted; or memory is wanting, and nothing is taken
abbrev pub TakesRow : Rows → RowId × Row → Result Bool Cause → Rows → Type 0
TakesRow before e out after =
    MatchResult out (λ more. (more ≡ true) × (after ≡ before ++ e ∷ []))
    (λ c. (c ≡ cause.OutOfMemory) × (after ≡ before))
