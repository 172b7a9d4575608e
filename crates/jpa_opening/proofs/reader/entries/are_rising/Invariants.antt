use Rattle.std.specs.List.{AllAdjacentBelow}
use Rattle.jpa_opening.proofs.reader.Rising.{Next}
use Rattle.jpa_opening.proofs.reader.entries.are_rising.Given as goal

abbrev pub invariant-loop-i : goal.invariant-loop-i
invariant-loop-i l = AllAdjacentBelow Next l.rows l.i
