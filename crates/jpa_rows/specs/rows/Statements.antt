-- How many statements changes of rows are, and how a store counts them.
use Rattle.std.specs.Prelude.{◌≡◌, ◌⊎◌, ◌+◌, ◌-◌, ◌^◌, ◌≤◌, min, ℕ, [], length, Option, Some, None, Result, OnOk}
use Rattle.jpa_rows.specs.declared.rows.row.RowChange.{RowChange}
use Rattle.jpa_rows.specs.rows.Rows.{Row}

-- the columns of the new row, and none of a dropped one
abbrev pub columns_in : Option Row → Row
columns_in None = []
columns_in (Some row) = row

-- one DELETE for the row, and one INSERT for each column of the new one
abbrev pub statements_of : RowChange → ℕ
statements_of change = length (columns_in change.row) + 1

-- a count in 64 bits, which stays at its greatest value
abbrev pub up_to_greatest : ℕ → ℕ
up_to_greatest n = min n (2 ^ 64 - 1)

-- at most one statement ran
abbrev pub IsAtMostOne : ℕ → ℕ → Type 0
IsAtMostOne old new = (new ≡ old) ⊎ (new ≡ up_to_greatest (old + 1))

-- at most so many did
abbrev pub AreAtMost : ℕ → ℕ → ℕ → Type 0
AreAtMost count old new = (new ≡ old) ⊎ (new ≤ up_to_greatest (old + count))

-- all of so many statements ran, or on a refusal some of them
abbrev pub Counts : {T E : Type 0} → Result T E → ℕ → ℕ → ℕ → Type 0
Counts r old new statements =
    OnOk r (new ≡ up_to_greatest (old + statements)) × (old ≤ new) × (new ≤ up_to_greatest (old + statements))
