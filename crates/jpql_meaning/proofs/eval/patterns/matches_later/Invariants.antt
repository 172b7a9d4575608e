use Rattle.std.proofs.Common.{◌≡◌, ◌+◌, length}
use Rattle.jpql_meaning.specs.eval.Texts.{any_rest, is_matched}
use Rattle.jpql_meaning.proofs.eval.patterns.matches_later.Given as goal

abbrev pub invariant-loop-marks : goal.invariant-loop-marks
invariant-loop-marks l = any_rest (is_matched l.fn.marks) l.fn.text ≡ any_rest (is_matched l.left) l.rest

abbrev pub decreases-loop-marks : goal.decreases-loop-marks
decreases-loop-marks l = length l.left + length l.rest
