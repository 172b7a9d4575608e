use Rattle.std.proofs.Common.{length}
use Rattle.jpql_run.proofs.paths.+gathered.Given as goal

abbrev pub decreases-gathered : goal.decreases-gathered
decreases-gathered l = length l.steps.now
