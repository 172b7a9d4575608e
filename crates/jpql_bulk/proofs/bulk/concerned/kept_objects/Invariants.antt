use Rattle.std.proofs.Common.{◌≡◌, ◌++◌, map, drop}
use Rattle.jpql_meaning.specs.eval.Answers.{under}
use Rattle.jpql_bulk.specs.bulk.Bulks as bulks
use Rattle.jpql_run.specs.Objects.{entry}
use Rattle.jpql_bulk.proofs.bulk.concerned.kept_objects.Given as goal

-- those that were kept, and those that are left
abbrev pub invariant-loop-object : goal.invariant-loop-object
invariant-loop-object l =
    bulks.kept_of l.run l.is_named l.filter (map entry l.objects)
    ≡ under (λ more. map entry l.left.items ++ more) (bulks.kept_of l.run l.is_named l.filter (map entry (drop l.object-index l.objects)))
