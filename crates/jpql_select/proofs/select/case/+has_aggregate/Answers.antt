use Rattle.std.proofs.Common.{rules}
use Rattle.jpql_select.proofs.select.Calls.{call_has_aggregate}
use Rattle.jpql_select.proofs.select.case.+has_aggregate.Goals as goal

pub has_aggregate-returns-in-Call : goal.has_aggregate-returns-in-Call
has_aggregate-returns-in-Call t c = rw c.in-Call.is (rw (call_has_aggregate _ _) (search rules))
