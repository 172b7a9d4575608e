use Rattle.std.proofs.Common.{◌≡◌, drop}
use Rattle.std.specs.List.{list_all, enumerate_from}
use Rattle.jpa_model.specs.Chains.{relations_of}
use Rattle.jpa_work.specs.context.Undo.{now}
use Rattle.jpa_work.specs.context.Work.{object}
use Rattle.jpa_flush.specs.flush.Flush.{same_along}
use Rattle.jpa_flush.proofs.flush.differing.differs.Given as goal

abbrev pub invariant-loop-relation : goal.invariant-loop-relation
invariant-loop-relation l =
    let w = now l.work in
    let along = same_along l.metamodel w l.object l.base in
    let relations = relations_of l.metamodel (object w l.object).class in
    list_all along (enumerate_from l.relation (drop l.relation relations)) ≡ list_all along (enumerate_from 0 relations)
