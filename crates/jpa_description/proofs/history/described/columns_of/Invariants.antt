use Rattle.std.proofs.Common.{◌≡◌, ◌++◌, map, drop}
use Rattle.std.specs.Prelude.{unsigned_abs}
use Rattle.jpa_description.proofs.history.described.columns_of.Given as goal

abbrev pub invariant-loop-column : goal.invariant-loop-column
invariant-loop-column l = l.made ++ map unsigned_abs (drop l.column-index l.columns) ≡ map unsigned_abs l.columns
