use Rattle.std.proofs.Common.{◌≡◌, ◌++◌, drop}
use Rattle.std.specs.List.{flat_map}
use Rattle.jpa_work.specs.context.Undo.{now}
use Rattle.jpa_cascade.specs.Waves.{targets}
use Rattle.jpa_cascade.proofs.waving.targets_of.Given as goal

abbrev pub invariant-loop-node : goal.invariant-loop-node
invariant-loop-node l =
    let next = targets l.metamodel l.operation (now l.work) in
    l.found.items ++ flat_map next (drop l.node-index l.wave) ≡ flat_map next l.wave
