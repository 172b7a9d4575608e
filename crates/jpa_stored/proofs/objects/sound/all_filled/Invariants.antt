use Rattle.std.proofs.Common.{◌≡◌, true, take}
use Rattle.jpa_stored.specs.objects.Sets.{no_required_null}
use Rattle.jpa_stored.proofs.objects.sound.all_filled.Given as goal

abbrev pub invariant-loop-entry : goal.invariant-loop-entry
invariant-loop-entry l = no_required_null l.metamodel (take l.entry-index l.entries) ≡ true
