use Rattle.std.proofs.Common.{◌≡◌, take, drop}
use Rattle.jpa_behaviour.specs.Served.{world_of_unit}
use Rattle.jpa_work.specs.heap.Shape.{HasShape}
use Rattle.jpa_lifecycle.specs.Callbacks.{fired_by}
use Rattle.jpa_lifecycle.proofs.Turns.{behind}
use Rattle.jpa_lifecycle.proofs.firing.fire.Given as goal

-- what is left to run, behind what ran
abbrev pub invariant-loop-i : goal.invariant-loop-i
invariant-loop-i g l =
    let world = world_of_unit g.B.Behaviour.meaning l.unit in
    record {
      names : l.ran.items ≡ l.fn.names;
      rest : behind (take l.i l.fn.names) (fired_by world l.event (drop l.i l.fn.names) l.object) ≡ fired_by world l.event l.fn.names l.fn.object;
      shape : HasShape l.unit.metamodel l.object;
    }
