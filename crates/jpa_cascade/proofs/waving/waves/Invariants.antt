use Rattle.std.proofs.Common.{◌≡◌, [], ◌∷◌, ◌+◌, ◌-◌, ◌^◌, ◌≤◌, ℕ, take, drop, length}
use Rattle.jpa_work.specs.context.Undo.{now}
use Rattle.jpa_cascade.specs.declared.Node.{Node}
use Rattle.jpa_cascade.specs.Order.{AreSeen}
use Rattle.jpa_cascade.specs.Waves.{targets, waves_by}
use Rattle.jpa_cascade.proofs.waving.waves.Given as goal

-- after so many waves the rest goes on from here
abbrev pub invariant-loop-from : goal.invariant-loop-from
invariant-loop-from l =
    let next = targets l.metamodel l.operation (now l.work) in
    record {
      told : (turns : ℕ) × ((more : ℕ) → waves_by next (turns + more) [] (Node.Live l.start ∷ []) ≡ waves_by next more (take l.from l.nodes.items) (drop l.from l.nodes.items));
      within : l.from ≤ length l.nodes.items;
      agree : AreSeen l.nodes.items l.seen;
    }

abbrev pub decreases-loop-from : goal.decreases-loop-from
decreases-loop-from l = 2 ^ 64 - l.from
