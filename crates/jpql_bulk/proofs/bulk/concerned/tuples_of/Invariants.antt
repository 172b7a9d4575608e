use Rattle.std.proofs.Common.{◌≡◌, ◌++◌, true, map, drop}
use Rattle.jpql_bulk.specs.bulk.Bulks.{tuple_of}
use Rattle.jpql_run.specs.Objects.{entry}
use Rattle.jpql_bulk.proofs.bulk.concerned.tuples_of.Given as goal

abbrev pub invariant-loop-object : goal.invariant-loop-object
invariant-loop-object l =
    map (tuple_of l.run true) (map entry l.objects) ≡ l.tuples.items ++ map (tuple_of l.run true) (map entry (drop l.object-index l.objects))
