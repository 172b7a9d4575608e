use Rattle.std.proofs.Common.{◌≡◌, ◌++◌, drop}
use Rattle.std.specs.List.{flat_map}
use Rattle.jpql_types.specs.declared.names.Names.{Names}
use Rattle.jpql_types.specs.Names.{in_value}
use Rattle.jpql_types.proofs.names.+add_parameters.Given as goal

abbrev pub invariant-add_parameters_of_all-loop-value : goal.invariant-add_parameters_of_all-loop-value
invariant-add_parameters_of_all-loop-value l =
    let parameters = in_value Names.Parameters in
    l.fn.names ++ flat_map parameters l.values ≡ l.names ++ flat_map parameters (drop l.value-index l.values)
