use Rattle.std.proofs.Common.{◌≡◌, ◌++◌, drop}
use Rattle.jpa_cascade.specs.Waves.{live_nodes}
use Rattle.jpa_cascade.proofs.targets.live_nodes.Given as goal

abbrev pub invariant-loop-node : goal.invariant-loop-node
invariant-loop-node l = l.objects ++ live_nodes (drop l.node-index l.nodes) ≡ live_nodes l.nodes
