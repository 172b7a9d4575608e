use Rattle.std.proofs.Common.{◌≡◌, drop}
use Rattle.std.specs.List.{zip}
use Rattle.jpa_stored.specs.objects.Sets.{links_there}
use Rattle.jpa_stored.proofs.objects.sound.links_filled.Given as goal

abbrev pub invariant-loop-i : goal.invariant-loop-i
invariant-loop-i l = links_there (zip l.relations l.owned) ≡ links_there (zip (drop l.i l.relations) (drop l.i l.owned))
