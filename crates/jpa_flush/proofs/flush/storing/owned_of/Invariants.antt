use Rattle.std.proofs.Common.{◌≡◌, take, map}
use Rattle.std.specs.List.{enumerate_from}
use Rattle.jpa_model.specs.Chains.{relations_of}
use Rattle.jpa_work.specs.context.Undo.{now}
use Rattle.jpa_work.specs.context.Work.{object}
use Rattle.jpa_flush.specs.flush.Flush.{owned_along}
use Rattle.jpa_flush.proofs.flush.storing.owned_of.Given as goal

abbrev pub invariant-loop-relation : goal.invariant-loop-relation
invariant-loop-relation l =
    let w = now l.work in
    l.owned ≡ map (owned_along l.metamodel w l.object) (take l.relation (enumerate_from 0 (relations_of l.metamodel (object w l.object).class)))
