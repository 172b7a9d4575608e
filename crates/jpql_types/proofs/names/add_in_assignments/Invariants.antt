use Rattle.std.proofs.Common.{◌≡◌, ◌++◌, drop}
use Rattle.std.specs.List.{flat_map}
use Rattle.jpql_types.specs.Names.{in_assignment}
use Rattle.jpql_types.proofs.names.add_in_assignments.Given as goal

abbrev pub invariant-loop-assignment : goal.invariant-loop-assignment
invariant-loop-assignment l =
    l.fn.names ++ flat_map (in_assignment l.which) l.assignments ≡ l.names ++ flat_map (in_assignment l.which) (drop l.assignment-index l.assignments)
