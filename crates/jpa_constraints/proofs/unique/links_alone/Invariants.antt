use Rattle.std.proofs.Common.{◌≡◌, drop}
use Rattle.std.specs.List.{zip}
use Rattle.jpa_open.specs.Opened.{now}
use Rattle.jpa_constraints.specs.Judged.{links_alone}
use Rattle.jpa_constraints.proofs.unique.links_alone.Given as goal

abbrev pub invariant-loop-i : goal.invariant-loop-i
invariant-loop-i l = links_alone l.metamodel (now l.view) l.owner (zip l.relations l.owned) ≡ links_alone l.metamodel (now l.view) l.owner (zip (drop l.i l.relations) (drop l.i l.owned))
