use Rattle.std.proofs.Common.{◌≡◌, drop}
use Rattle.std.specs.List.{list_all, enumerate_from}
use Rattle.jpa_model.specs.Chains.{relations_of}
use Rattle.jpa_work.specs.context.Undo.{now}
use Rattle.jpa_work.specs.context.Work.{object}
use Rattle.jpa_flush.specs.flush.Flush.{links_along}
use Rattle.jpa_flush.proofs.flush.links.links_stored.Given as goal

abbrev pub invariant-loop-relation : goal.invariant-loop-relation
invariant-loop-relation l =
    let w = now l.work in
    let along = links_along w (l.entry).object in
    let relations = relations_of l.metamodel (object w (l.entry).object).class in
    list_all along (enumerate_from l.relation (drop l.relation relations)) ≡ list_all along (enumerate_from 0 relations)
