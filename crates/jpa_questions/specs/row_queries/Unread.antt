-- Why rows are not read.
use Rattle.std.specs.Prelude.{◌≡◌, ◌⊎◌, ℕ, List, Result}
use Rattle.jpa_value.specs.declared.refusal.Cause.{Cause}
use Rattle.jpa_value.specs.declared.refusal.Cause.TheVariants as cause
use Rattle.jpa_rows.specs.rows.Faults.{IsStoreCause}

-- the place of a damaged row is told, or that of none
abbrev pub IsDamage : Cause → Type 0
IsDamage c = (table : ℕ) × (bytes : List ℕ) × (c ≡ cause.Damaged table bytes)

-- why rows are not read: want of memory, a fault of the store, or damage
abbrev pub IsReadingCause : Cause → Type 0
IsReadingCause c = IsStoreCause c ⊎ IsDamage c
