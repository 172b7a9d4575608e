use Rattle.std.proofs.Common.{length}
use Rattle.jpql_select.proofs.select.order.+by_keys.Given as goal

abbrev pub decreases-by_keys : goal.decreases-by_keys
decreases-by_keys l = length l.keys.now
