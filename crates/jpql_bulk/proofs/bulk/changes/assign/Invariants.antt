use Rattle.std.proofs.Common.{◌≡◌, map, drop}
use Rattle.jpql_bulk.specs.bulk.Throwing.{throws_in}
use Rattle.jpql_bulk.proofs.bulk.Made.{after}
use Rattle.jpql_bulk.specs.bulk.Changes.{change_in}
use Rattle.jpql_meaning.specs.plan.Bulk as bulk
use Rattle.jpql_bulk.proofs.bulk.changes.assign.Given as goal

-- what was made, and what is left
abbrev pub invariant-loop-change : goal.invariant-loop-change
invariant-loop-change g l =
    let throws = throws_in g.B.Behaviour.meaning l.unit.registry in
    bulk.each_assigned l.unit.metamodel throws (map change_in l.changes) ≡ after l.unit.metamodel throws l.made.items (map change_in (drop l.change-index l.changes))
