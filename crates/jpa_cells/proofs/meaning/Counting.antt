-- How many statements ran.
use Rattle.std.proofs.Common.{ℕ, ◌+◌, ◌≤◌, Result}
use Rattle.std.proofs.lemmas.Result.{IfOk-from_err}
use Rattle.std.specs.Result.{IsErr}
use Rattle.jpa_cells.specs.meaning.Store.{Counts, up_to_greatest}

-- on a refusal
pub counts_err : {T E : Type 0} (r : Result T E) (old new statements : ℕ) → IsErr r → old ≤ new → new ≤ up_to_greatest (old + statements) → Counts r old new statements
counts_err r old new statements failed low high = (IfOk-from_err r _ failed, low, high)
