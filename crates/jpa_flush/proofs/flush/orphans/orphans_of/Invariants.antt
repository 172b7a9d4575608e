use Rattle.std.proofs.Common.{◌≡◌, ◌++◌, drop}
use Rattle.std.specs.List.{flat_map, enumerate_from}
use Rattle.jpa_model.specs.Chains.{relations_of}
use Rattle.jpa_work.specs.context.Undo.{now}
use Rattle.jpa_work.specs.context.Work.{object}
use Rattle.jpa_flush.specs.flush.Flush.{orphans_along}
use Rattle.jpa_flush.proofs.flush.orphans.orphans_of.Given as goal

-- those that are there, with those along the relations that are left
abbrev pub invariant-loop-relation : goal.invariant-loop-relation
invariant-loop-relation l =
    let w = now l.work in
    let along = orphans_along l.metamodel w l.object in
    let relations = relations_of l.metamodel (object w l.object).class in
    l.orphans ++ flat_map along (enumerate_from l.relation (drop l.relation relations)) ≡ flat_map along (enumerate_from 0 relations)
