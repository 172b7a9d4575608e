use Rattle.std.proofs.Common.{◌≡◌, drop}
use Rattle.std.specs.List.{zip}
use Rattle.jpa_open.specs.Opened.{now}
use Rattle.jpa_constraints.specs.Judged.{links_lead}
use Rattle.jpa_constraints.proofs.reference.links_lead.Given as goal

abbrev pub invariant-loop-i : goal.invariant-loop-i
invariant-loop-i l = links_lead l.metamodel (now l.view) (zip l.relations l.owned) ≡ links_lead l.metamodel (now l.view) (zip (drop l.i l.relations) (drop l.i l.owned))
