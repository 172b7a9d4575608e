use Rattle.std.proofs.Common.{◌≡◌, drop}
use Rattle.jpa_flush.specs.flush.Flush.{same_identities}
use Rattle.jpa_flush.proofs.flush.still.are_same_identities.Given as goal

abbrev pub invariant-loop-i : goal.invariant-loop-i
invariant-loop-i l = same_identities (drop l.i l.a) (drop l.i l.b) ≡ same_identities l.a l.b
