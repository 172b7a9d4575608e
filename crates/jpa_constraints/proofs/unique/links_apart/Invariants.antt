use Rattle.std.proofs.Common.{◌≡◌, drop}
use Rattle.std.specs.List.{zip}
use Rattle.jpa_constraints.specs.Judged.{links_apart}
use Rattle.jpa_constraints.proofs.unique.links_apart.Given as goal

abbrev pub invariant-loop-i : goal.invariant-loop-i
invariant-loop-i l = links_apart (zip l.relations l.owned) ≡ links_apart (zip (drop l.i l.relations) (drop l.i l.owned))
