use Rattle.std.proofs.Common.{◌≡◌, take}
use Rattle.jpql_bulk.specs.bulk.Changes.{members_in}
use Rattle.jpa_questions.proofs.row_queries.owning.members_of.Given as goal

-- the members so far
abbrev pub invariant-loop-member : goal.invariant-loop-member
invariant-loop-member l = l.own ≡ members_in (take l.member-index l.members)
