use Rattle.std.proofs.Common.{◌≡◌, drop}
use Rattle.std.specs.List.{list_all}
use Rattle.jpql_meaning.specs.plan.Alone.{is_alone_value}
use Rattle.jpql_run.proofs.alone.+is_alone_value.Given as goal

abbrev pub invariant-are_alone_values-loop-value : goal.invariant-are_alone_values-loop-value
invariant-are_alone_values-loop-value l = list_all (is_alone_value l.around) (drop l.value-index l.values) ≡ list_all (is_alone_value l.around) l.values
