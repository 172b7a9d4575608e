use Rattle.std.proofs.Common.{◌≡◌, drop}
use Rattle.jpql_bulk.specs.bulk.Throwing.{throws_in}
use Rattle.jpql_bulk.specs.bulk.Changes.{members_in}
use Rattle.jpql_meaning.specs.plan.Bulk as bulk
use Rattle.jpql_bulk.proofs.bulk.changes.all_assigned.Given as goal

-- what is left to assign makes of what was made what all make of the object
abbrev pub invariant-loop-member : goal.invariant-loop-member
invariant-loop-member g l =
    let throws = throws_in g.B.Behaviour.meaning l.unit.registry in
    bulk.all_assigned l.unit.metamodel throws l.fn.object (members_in l.members)
    ≡ bulk.all_assigned l.unit.metamodel throws l.made (members_in (drop l.member-index l.members))
