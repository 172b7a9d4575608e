use Rattle.std.proofs.Common.{◌≡◌, ◌++◌, drop}
use Rattle.jpa_work.specs.context.Undo.{now}
use Rattle.jpa_cascade.specs.Waves.{nodes_of}
use Rattle.jpa_cascade.proofs.targets.push_each_named.Given as goal

abbrev pub invariant-loop-id : goal.invariant-loop-id
invariant-loop-id l =
    let nodes = nodes_of l.metamodel (now l.work) in
    l.found.items ++ nodes (drop l.id-index l.ids) ≡ l.initial.found.items ++ nodes l.ids
