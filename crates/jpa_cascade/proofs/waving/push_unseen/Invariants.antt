use Rattle.std.proofs.Common.{◌≡◌, ◌++◌, drop}
use Rattle.jpa_cascade.specs.Order.{AreSeen}
use Rattle.jpa_cascade.specs.Waves.{unseen}
use Rattle.jpa_cascade.proofs.waving.push_unseen.Given as goal

abbrev pub invariant-loop-node : goal.invariant-loop-node
invariant-loop-node l =
    record {
      rest : l.nodes.items ++ unseen l.nodes.items (drop l.node-index l.found) ≡ l.initial.nodes.items ++ unseen l.initial.nodes.items l.found;
      agree : AreSeen l.nodes.items l.seen;
    }
