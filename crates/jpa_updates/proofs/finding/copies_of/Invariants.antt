use Rattle.std.proofs.Common.{◌≡◌, take}
use Rattle.jpql_run.specs.Objects.{identities}
use Rattle.jpa_updates.proofs.finding.copies_of.Given as goal

abbrev pub invariant-loop-id : goal.invariant-loop-id
invariant-loop-id l = l.copies ≡ identities (take l.id-index l.ids)
