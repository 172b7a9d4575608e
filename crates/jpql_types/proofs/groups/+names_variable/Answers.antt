use Rattle.std.proofs.Common.{rules}
use Rattle.jpql_types.proofs.Joined.{call_names_variable}
use Rattle.jpql_types.proofs.groups.+names_variable.Goals as goal

pub names_variable-returns-in-Call : goal.names_variable-returns-in-Call
names_variable-returns-in-Call t c = rw c.in-Call.is (rw (call_names_variable _ _) (search rules))
