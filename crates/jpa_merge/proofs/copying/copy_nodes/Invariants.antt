use Rattle.std.proofs.Common.{◌≡◌, drop}
use Rattle.jpa_behaviour.specs.Served.{world_of_unit}
use Rattle.jpa_work.specs.context.Steps.{each}
use Rattle.jpa_work.specs.context.Undo.{now, since}
use Rattle.jpa_operations.specs.fetch.Grown.{HasGrown, IsReady}
use Rattle.jpa_merge.specs.Merge.{copy_node}
use Rattle.jpa_merge.proofs.copying.copy_nodes.Given as goal

abbrev pub invariant-loop-image : goal.invariant-loop-image
invariant-loop-image g l =
    let copy = copy_node (world_of_unit g.B.Behaviour.meaning l.unit) l.images in
    record {
      rest : each copy (drop l.image-index l.image-items) (now l.work) ≡ each copy l.images (now l.fn.work);
      ready : IsReady l.unit.metamodel (now l.work);
      grown : HasGrown (now l.fn.work) (now l.work);
      view : l.work.view ≡ l.fn.work.view;
      since : since l.work ≡ since l.fn.work;
    }
