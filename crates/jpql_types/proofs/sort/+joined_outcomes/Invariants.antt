use Rattle.std.proofs.Common.{length}
use Rattle.jpql_types.proofs.sort.+joined_outcomes.Given as goal

abbrev pub decreases-joined_outcomes : goal.decreases-joined_outcomes
decreases-joined_outcomes l = length l.all.now
