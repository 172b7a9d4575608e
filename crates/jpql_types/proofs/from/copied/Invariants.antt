use Rattle.std.proofs.Common.{◌≡◌, ◌++◌, drop}
use Rattle.jpql_types.proofs.from.copied.Given as goal

abbrev pub invariant-loop-variable : goal.invariant-loop-variable
invariant-loop-variable l = l.scope ≡ l.found ++ drop l.variable-index l.scope
