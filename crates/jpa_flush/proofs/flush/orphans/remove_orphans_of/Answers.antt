use Rattle.std.proofs.Common.{◌∙◌}
use Rattle.jpa_behaviour.specs.Served.{world_of_unit}
use Rattle.jpa_work.specs.context.Undo.{now}
use Rattle.jpa_operations.proofs.ops.Front.{IsOnward}
use Rattle.jpa_operations.proofs.ops.Going.{done_holds}
use Rattle.jpa_flush.specs.flush.Flush.{remove_orphan}
use Rattle.jpa_flush.proofs.flush.Orphaned.{orphan_goes}
use Rattle.jpa_flush.proofs.flush.Rounds.{next_done}
use Rattle.jpa_flush.proofs.flush.orphans.remove_orphans_of.Goals as goal

pub loop-id-preserved : goal.loop-id-preserved
loop-id-preserved g c =
    let m = c.args.unit.now.metamodel in
    let world = world_of_unit g.B.Behaviour.meaning c.args.unit.now in
    let u = now c.args.work.now in
    let w = now c.loop-id.work in
    let w' = now c.remove_orphan.new.work in
    let id = c.id-item.result in
    let done = c.in_ok-remove_orphan.ensures.meets in
    let before = c.loop-id.invariant in
    record {
      rest = next_done (remove_orphan world) c.as_slice-id-items.result.now c.loop-id.id-index id w w' c.loop-id-test.true c.id-item.is done ∙ before.rest;
      goes = done_holds (IsOnward m u) (remove_orphan world id w) tt w' done (orphan_goes world u id w before.goes);
      view = c.remove_orphan.ensures.view ∙ before.view;
      since = c.remove_orphan.ensures.since ∙ before.since;
    }
