use Rattle.std.proofs.Common.{length}
use Rattle.jpql_types.proofs.sort.+joined_whens.Given as goal

abbrev pub decreases-joined_whens : goal.decreases-joined_whens
decreases-joined_whens l = length l.all.now
