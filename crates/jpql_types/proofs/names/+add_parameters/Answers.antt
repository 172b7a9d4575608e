use Rattle.std.proofs.Common.{rules}
use Rattle.jpql_types.proofs.Joined.{call_names}
use Rattle.jpql_types.proofs.names.+add_parameters.Goals as goal

pub add_parameters-returns-in-Call : goal.add_parameters-returns-in-Call
add_parameters-returns-in-Call t c = rw c.in-Call.is (rw (call_names _ _) (search rules))
