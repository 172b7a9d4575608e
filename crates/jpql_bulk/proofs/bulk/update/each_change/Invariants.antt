use Rattle.std.proofs.Common.{◌≡◌, ◌++◌, map, drop}
use Rattle.jpql_meaning.specs.eval.Answers.{every, under}
use Rattle.jpql_bulk.specs.bulk.Bulks as bulks
use Rattle.jpql_bulk.specs.bulk.Changes.{change_in}
use Rattle.jpql_run.specs.Objects.{entry}
use Rattle.jpql_bulk.proofs.bulk.update.each_change.Given as goal

-- what was found, and what is left
abbrev pub invariant-loop-object : goal.invariant-loop-object
invariant-loop-object l =
    every (map (bulks.assignments_for l.run l.all) (map entry l.objects))
    ≡ under (λ more. map change_in l.found.items ++ more) (every (map (bulks.assignments_for l.run l.all) (map entry (drop l.object-index l.objects))))
