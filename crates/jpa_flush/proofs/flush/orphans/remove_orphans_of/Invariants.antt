use Rattle.std.proofs.Common.{◌≡◌, drop}
use Rattle.jpa_behaviour.specs.Served.{world_of_unit}
use Rattle.jpa_work.specs.context.Steps.{each}
use Rattle.jpa_work.specs.context.Undo.{now, since}
use Rattle.jpa_operations.proofs.ops.Front.{IsOnward}
use Rattle.jpa_flush.specs.flush.Flush.{remove_orphan}
use Rattle.jpa_flush.proofs.flush.Orphaned.{removed_of}
use Rattle.jpa_flush.proofs.flush.orphans.remove_orphans_of.Given as goal

-- what is left gives what all was to give
abbrev pub invariant-loop-id : goal.invariant-loop-id
invariant-loop-id g l =
    let world = world_of_unit g.B.Behaviour.meaning l.unit in record {
      rest : each (remove_orphan world) (drop l.id-index l.id-items) (now l.work) ≡ removed_of world l.object (now l.fn.work);
      goes : IsOnward l.unit.metamodel (now l.fn.work) (now l.work);
      view : (l.work).view ≡ (l.fn.work).view;
      since : since l.work ≡ since l.fn.work;
    }
