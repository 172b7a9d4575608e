use Rattle.std.proofs.Common.{length}
use Rattle.jpql_select.proofs.select.groups.+is_grouped_by.Given as goal

abbrev pub decreases-is_grouped_by : goal.decreases-is_grouped_by
decreases-is_grouped_by l = length l.paths.now
