use Rattle.std.proofs.Common.{◌≡◌, ◌++◌, drop}
use Rattle.std.specs.List.{flat_map, enumerate_from}
use Rattle.jpa_model.specs.Chains.{relations_of}
use Rattle.jpa_work.specs.context.Undo.{now}
use Rattle.jpa_work.specs.context.Work.{object}
use Rattle.jpa_cascade.specs.Waves.{live_targets_along}
use Rattle.jpa_cascade.proofs.targets.push_live_targets.Given as goal

abbrev pub invariant-loop-relation : goal.invariant-loop-relation
invariant-loop-relation l =
    let w = now l.work in
    let along = live_targets_along l.metamodel l.operation w l.object in
    let relations = relations_of l.metamodel (object w l.object).class in
    l.found.items ++ flat_map along (enumerate_from l.relation (drop l.relation relations)) ≡ l.initial.found.items ++ flat_map along (enumerate_from 0 relations)
