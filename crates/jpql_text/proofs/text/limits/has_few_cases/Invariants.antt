use Rattle.std.proofs.Common.{◌≡◌, ◌+◌, length}
use Rattle.jpql_text.specs.text.Together.{most_cases, cases_in}
use Rattle.jpql_text.proofs.text.limits.has_few_cases.Given as goal

abbrev pub invariant-loop-left : goal.invariant-loop-left
invariant-loop-left l = cases_in l.fn.tokens + l.room ≡ most_cases + cases_in l.left

abbrev pub decreases-loop-left : goal.decreases-loop-left
decreases-loop-left l = length l.left
