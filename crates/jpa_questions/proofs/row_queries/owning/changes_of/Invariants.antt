use Rattle.std.proofs.Common.{◌≡◌, map, take}
use Rattle.jpql_bulk.specs.bulk.Changes.{change_in}
use Rattle.jpa_questions.specs.row_queries.Changing.{by_identity}
use Rattle.jpa_questions.proofs.row_queries.owning.changes_of.Given as goal

-- the changes so far
abbrev pub invariant-loop-change : goal.invariant-loop-change
invariant-loop-change l = l.own ≡ map by_identity (map change_in (take l.change-index l.found))
