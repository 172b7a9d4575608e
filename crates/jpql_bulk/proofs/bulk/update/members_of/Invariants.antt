use Rattle.std.proofs.Common.{◌≡◌, ◌++◌, map, drop}
use Rattle.jpql_meaning.specs.eval.Answers.{every, under}
use Rattle.jpql_bulk.specs.bulk.Bulks as bulks
use Rattle.jpql_bulk.specs.bulk.Changes.{members_in}
use Rattle.jpql_run.specs.Objects.{entry}
use Rattle.jpql_bulk.proofs.bulk.update.members_of.Given as goal

-- what was found, and what is left
abbrev pub invariant-loop-one : goal.invariant-loop-one
invariant-loop-one l =
    every (map (bulks.assignment_datum l.run (entry l.object)) l.all)
    ≡ under (λ more. members_in l.found.items ++ more) (every (map (bulks.assignment_datum l.run (entry l.object)) (drop l.one-index l.all)))
