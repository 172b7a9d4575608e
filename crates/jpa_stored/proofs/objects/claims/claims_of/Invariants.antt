use Rattle.std.proofs.Common.{◌≡◌, take}
use Rattle.jpa_stored.specs.objects.Sets.{claims}
use Rattle.jpa_stored.proofs.objects.claims.claims_of.Given as goal

abbrev pub invariant-loop-entry : goal.invariant-loop-entry
invariant-loop-entry l = l.out.items ≡ claims l.metamodel (take l.entry-index l.entries)
