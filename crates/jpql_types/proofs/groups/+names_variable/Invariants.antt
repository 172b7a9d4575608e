use Rattle.std.proofs.Common.{◌≡◌, drop}
use Rattle.std.specs.List.{list_any}
use Rattle.jpql_types.specs.Statements.{names_variable}
use Rattle.jpql_types.proofs.groups.+names_variable.Given as goal

abbrev pub invariant-name_variable-loop-value : goal.invariant-name_variable-loop-value
invariant-name_variable-loop-value l = list_any names_variable l.values ≡ list_any names_variable (drop l.value-index l.values)
