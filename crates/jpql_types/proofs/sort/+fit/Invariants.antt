use Rattle.std.proofs.Common.{length}
use Rattle.jpql_types.proofs.sort.+fit.Given as goal

abbrev pub decreases-fit : goal.decreases-fit
decreases-fit l = length l.asked.now
