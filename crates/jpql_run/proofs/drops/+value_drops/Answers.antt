use Rattle.std.proofs.Common.{rules}
use Rattle.jpql_run.proofs.Dropped.{value_drops_call}
use Rattle.jpql_run.proofs.drops.+value_drops.Goals as goal

pub value_drops-returns-in-Call : goal.value_drops-returns-in-Call
value_drops-returns-in-Call t c = rw c.in-Call.is (rw (value_drops_call _ _ _ _ _ _) (search rules))
