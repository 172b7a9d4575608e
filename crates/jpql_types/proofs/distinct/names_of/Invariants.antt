use Rattle.std.proofs.Common.{◌≡◌, ◌++◌, map, drop}
use Rattle.jpql_trees.specs.declared.tree.Assignment.{Assignment}
use Rattle.jpql_types.proofs.distinct.names_of.Given as goal

abbrev pub invariant-loop-assignment : goal.invariant-loop-assignment
invariant-loop-assignment l =
    let names = map (λ (a : Assignment). a.name) in names l.assignments ≡ l.names ++ names (drop l.assignment-index l.assignments)
