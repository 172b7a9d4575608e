-- What the store of cells tells of its faults is what a store of rows tells.
use Rattle.std.proofs.Common.{◌≡◌, refl, ◌∙◌, ℕ}
use Rattle.std.specs.Prelude.{Result, Ok, Err}
use Rattle.jpa_value.specs.declared.refusal.Cause.{Cause}
use Rattle.jpa_value.specs.declared.refusal.Cause.TheVariants as cause
use Rattle.jpa_rows.specs.rows.Faults as rows
use Rattle.jpa_cells.specs.meaning.Store.{Tells, faults_after}

module _ {T : Type 0} (old new : ℕ) where
  same_count : (r : Result T Cause) → faults_after r old ≡ rows.faults_after r old
  same_count (Ok a) = refl
  same_count (Err cause.StoreFault) = refl
  same_count (Err e) = refl

  pub counted : (r : Result T Cause) → new ≡ faults_after r old → new ≡ rows.faults_after r old
  counted r told = told ∙ same_count r

  pub told : (r : Result T Cause) → Tells r old new → new ≡ rows.faults_after r old
  told (Ok a) same = same
  told (Err cause.OutOfMemory) same = same
  told (Err cause.StoreFault) more = more
  told (Err e) none = absurd none
