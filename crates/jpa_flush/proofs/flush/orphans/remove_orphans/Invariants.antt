use Rattle.std.proofs.Common.{◌≡◌, drop}
use Rattle.jpa_behaviour.specs.Served.{world_of_unit}
use Rattle.jpa_work.specs.context.Steps.{each}
use Rattle.jpa_work.specs.context.Undo.{now, since}
use Rattle.jpa_operations.proofs.ops.Front.{IsOnward}
use Rattle.jpa_flush.specs.flush.Flush.{remove_orphans, remove_orphans_of}
use Rattle.jpa_flush.proofs.flush.orphans.remove_orphans.Given as goal

-- what the entries of the start that are left give is what all were to give
abbrev pub invariant-loop-i : goal.invariant-loop-i
invariant-loop-i g l =
    let world = world_of_unit g.B.Behaviour.meaning l.unit in record {
      rest : each (remove_orphans_of world) (drop l.i (now l.fn.work).context) (now l.work) ≡ remove_orphans world (now l.fn.work);
      goes : IsOnward l.unit.metamodel (now l.fn.work) (now l.work);
      view : (l.work).view ≡ (l.fn.work).view;
      since : since l.work ≡ since l.fn.work;
    }
