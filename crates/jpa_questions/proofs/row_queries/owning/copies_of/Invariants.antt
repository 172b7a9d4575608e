use Rattle.std.proofs.Common.{◌≡◌, take}
use Rattle.jpql_run.specs.Objects.{identities}
use Rattle.jpa_questions.proofs.row_queries.owning.copies_of.Given as goal

-- the copies so far
abbrev pub invariant-loop-id : goal.invariant-loop-id
invariant-loop-id l = l.copies ≡ identities (take l.id-index l.ids)
