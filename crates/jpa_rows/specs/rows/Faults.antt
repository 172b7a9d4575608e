-- How a store tells its own faults: it counts them.
use Rattle.std.specs.Prelude.{◌≡◌, ◌⊎◌, ◌+◌, ◌-◌, ◌^◌, min, ℕ, Result, Err}
use Rattle.jpa_value.specs.declared.refusal.Cause.{Cause}
use Rattle.jpa_value.specs.declared.refusal.Cause.TheVariants as cause

-- one more, in 64 bits: the greatest number stays
abbrev pub one_more : ℕ → ℕ
one_more n = min (n + 1) (2 ^ 64 - 1)

-- how many there are after an answer: a fault of the store is one more, and nothing else is
abbrev pub faults_after : {T : Type 0} → Result T Cause → ℕ → ℕ
faults_after (Err cause.StoreFault) faults = one_more faults
faults_after _ faults = faults

-- want of memory, or a fault of the store
abbrev pub IsStoreCause : Cause → Type 0
IsStoreCause c = (c ≡ cause.OutOfMemory) ⊎ (c ≡ cause.StoreFault)
