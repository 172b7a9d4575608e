use Rattle.std.proofs.Common.{◌≡◌, ◌++◌, drop}
use Rattle.std.specs.List.{flat_map}
use Rattle.jpql_types.specs.Names.{in_value}
use Rattle.jpql_types.proofs.names.add_in_values.Given as goal

abbrev pub invariant-loop-value : goal.invariant-loop-value
invariant-loop-value l =
    l.fn.names ++ flat_map (in_value l.which) l.values ≡ l.names ++ flat_map (in_value l.which) (drop l.value-index l.values)
