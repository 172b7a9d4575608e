use Rattle.std.proofs.Common.{◌≡◌, ◌++◌, map, drop}
use Rattle.jpql_bulk.specs.bulk.Bulks as bulks
use Rattle.jpql_run.specs.Objects.{entry}
use Rattle.jpql_bulk.proofs.bulk.concerned.without_dropped.Given as goal

-- those before, and those that are left
abbrev pub invariant-loop-object : goal.invariant-loop-object
invariant-loop-object l =
    bulks.there l.run l.is_named l.all l.filter (map entry l.objects)
    ≡ map entry l.left.items ++ bulks.there l.run l.is_named l.all l.filter (map entry (drop l.object-index l.objects))
