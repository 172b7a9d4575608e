use Rattle.std.proofs.Common.{◌≡◌, drop}
use Rattle.jpql_types.specs.Scope.{same_variable}
use Rattle.jpql_types.specs.Statements.{are_distinct}
use Rattle.jpql_types.proofs.distinct.are_distinct_variables.Given as goal

abbrev pub invariant-loop-place : goal.invariant-loop-place
invariant-loop-place l = are_distinct same_variable l.variables ≡ are_distinct same_variable (drop l.place l.variables)
