use Rattle.std.proofs.Common.{◌≡◌, drop}
use Rattle.jpa_opening.specs.reader.Owners.{are_owned}
use Rattle.jpa_opening.proofs.reader.owners.are_owned.Given as goal

abbrev pub invariant-loop-id : goal.invariant-loop-id
invariant-loop-id l = are_owned l.metamodel l.set (drop l.id-index l.rows) ≡ are_owned l.metamodel l.set l.rows
