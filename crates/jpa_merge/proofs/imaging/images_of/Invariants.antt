use Rattle.std.proofs.Common.{◌≡◌, drop}
use Rattle.jpa_behaviour.specs.Served.{world_of_unit}
use Rattle.jpa_work.specs.context.Undo.{now, since}
use Rattle.jpa_cascade.specs.Waves.{live_nodes}
use Rattle.jpa_operations.specs.fetch.Grown.{HasGrown, IsReady}
use Rattle.jpa_operations.specs.fetch.Members.{collect}
use Rattle.jpa_operations.proofs.fetch.Collected.{behind}
use Rattle.jpa_merge.specs.Imaged.{AreImaged}
use Rattle.jpa_merge.specs.Merge.{image_of_node}
use Rattle.jpa_merge.proofs.imaging.images_of.Given as goal

abbrev pub invariant-loop-node : goal.invariant-loop-node
invariant-loop-node g l =
    let image = image_of_node (world_of_unit g.B.Behaviour.meaning l.unit) in
    record {
      rest : behind l.images (collect image (live_nodes (drop l.node-index l.nodes)) (now l.work)) ≡ collect image (live_nodes l.nodes) (now l.fn.work);
      imaged : AreImaged (now l.work) l.images;
      ready : IsReady l.unit.metamodel (now l.work);
      grown : HasGrown (now l.fn.work) (now l.work);
      view : l.work.view ≡ l.fn.work.view;
      since : since l.work ≡ since l.fn.work;
    }
