use Rattle.std.proofs.Common.{◌≡◌, drop}
use Rattle.std.specs.List.{list_all}
use Rattle.jpql_run.specs.Calm.{is_calm_value}
use Rattle.jpql_run.proofs.calm.+is_calm_value.Given as goal

abbrev pub invariant-are_calm_values-loop-value : goal.invariant-are_calm_values-loop-value
invariant-are_calm_values-loop-value l = list_all is_calm_value (drop l.value-index l.values) ≡ list_all is_calm_value l.values
