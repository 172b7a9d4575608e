use Rattle.std.proofs.Common.{◌≡◌, drop}
use Rattle.jpql_types.specs.Sorts.{joined_with}
use Rattle.jpql_types.proofs.sort.joined_with.Given as goal

abbrev pub invariant-loop-sort : goal.invariant-loop-sort
invariant-loop-sort l = joined_with l.fn.first l.all ≡ joined_with l.found (drop l.sort-index l.all)
