use Rattle.std.proofs.Common.{◌≡◌, drop}
use Rattle.std.specs.List.{zip}
use Rattle.jpa_stored.specs.objects.Sets.{values_there}
use Rattle.jpa_stored.proofs.objects.sound.values_filled.Given as goal

abbrev pub invariant-loop-i : goal.invariant-loop-i
invariant-loop-i l = values_there (zip l.attributes l.values) ≡ values_there (zip (drop l.i l.attributes) (drop l.i l.values))
