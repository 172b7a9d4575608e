use Rattle.std.proofs.Common.{◌≡◌, take}
use Rattle.jpa_opening.proofs.migration.planning.dropped_by.Given as goal

abbrev pub invariant-loop-number : goal.invariant-loop-number
invariant-loop-number l = l.dropped ≡ take l.number-index l.number-items
