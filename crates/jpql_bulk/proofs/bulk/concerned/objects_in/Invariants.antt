use Rattle.std.proofs.Common.{◌≡◌, ◌++◌, map, drop, filter_map}
use Rattle.jpql_bulk.specs.bulk.Bulks.{first_object}
use Rattle.jpql_run.specs.Objects.{entry}
use Rattle.jpql_bulk.proofs.bulk.concerned.objects_in.Given as goal

abbrev pub invariant-loop-tuple : goal.invariant-loop-tuple
invariant-loop-tuple l = filter_map first_object l.tuples ≡ map entry l.objects.items ++ filter_map first_object (drop l.tuple-index l.tuples)
