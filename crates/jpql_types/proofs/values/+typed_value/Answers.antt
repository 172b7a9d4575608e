use Rattle.std.proofs.Common.{rules}
use Rattle.jpql_types.proofs.Calls.{call_is_typed}
use Rattle.jpql_types.proofs.values.+typed_value.Goals as goal

pub typed_call-returns-in_err-arguments-clause-sort : goal.typed_call-returns-in_err-arguments-clause-sort
typed_call-returns-in_err-arguments-clause-sort t c = rw (call_is_typed _ _ _ _ _ _ _) (search rules)

pub typed_call-returns-clause-sort : goal.typed_call-returns-clause-sort
typed_call-returns-clause-sort t c = rw (call_is_typed _ _ _ _ _ _ _) (search rules)
