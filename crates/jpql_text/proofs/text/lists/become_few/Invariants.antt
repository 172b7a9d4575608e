use Rattle.std.proofs.Common.{◌≡◌, ◌+◌, length}
use Rattle.jpql_text.specs.text.Together.{most_values_together, values_together, values_from}
use Rattle.jpql_text.proofs.text.lists.become_few.Given as goal

abbrev pub invariant-loop-left : goal.invariant-loop-left
invariant-loop-left l =
    values_together l.lists l.fn.tokens + l.room ≡ most_values_together + values_from l.lists l.before l.left

abbrev pub decreases-loop-left : goal.decreases-loop-left
decreases-loop-left l = length l.left
