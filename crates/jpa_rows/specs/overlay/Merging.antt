-- The rows of a table and the changes over them, in one walk.
use Rattle.std.specs.Prelude.{◌≡◌, Bool, T, ◌∷◌, ◌++◌, Result}
use Rattle.std.specs.FinMap.{is_sorted}
use Rattle.jpa_value.specs.declared.refusal.Cause.{Cause}
use Rattle.jpa_value.specs.declared.refusal.Cause.TheVariants as cause
use Rattle.jpa_value.specs.Value.{identity_cmp}
use Rattle.jpa_rows.specs.laws.Handing.{Hands}
use Rattle.jpa_rows.specs.rows.Rows.{RowId, Row, Rows, AreRising}
use Rattle.jpa_rows.specs.overlay.Overlay.{Changes, rows_under}

-- the cause is want of memory, the only failure but those of what takes the rows
abbrev pub IsMemory : Cause → Type 0
IsMemory c = c ≡ cause.OutOfMemory

-- What the changes put before the row is handed on, and the row, unless it is changed itself; then
-- these changes are left.
pub record MergesRow {K : Type 0} (Takes : K → RowId × Row → Result Bool Cause → K → Type 0) (before : Changes)
    (e : RowId × Row) (out : Result Bool Cause) (after : Changes) (first last : K) : Type 0 where
  pub these : Rows
  pub handed : Hands Takes IsMemory first these out last
  pub merged : T (is_sorted identity_cmp before) → (rows : Rows) → AreRising (e ∷ rows) → rows_under before (e ∷ rows)
      ≡ these ++ rows_under after rows
  pub sorted : T (is_sorted identity_cmp before) → T (is_sorted identity_cmp after)
