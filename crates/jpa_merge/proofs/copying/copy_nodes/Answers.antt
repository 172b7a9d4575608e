use Rattle.std.proofs.Common.{◌∙◌, sym}
use Rattle.std.proofs.lemmas.List.{get_or_default}
use Rattle.jpa_behaviour.specs.Served.{world_of_unit}
use Rattle.jpa_work.specs.context.Undo.{now}
use Rattle.jpa_operations.proofs.fetch.Grown.{grown_on}
use Rattle.jpa_merge.specs.Merge.{copy_node}
use Rattle.jpa_merge.proofs.Passes.{next_done}
use Rattle.jpa_merge.proofs.copying.copy_nodes.Goals as goal

pub loop-image-preserved : goal.loop-image-preserved
loop-image-preserved g c =
    let w0 = now c.args.work.now in
    let w = now c.loop-image.work in
    let w' = now c.copy_node.new.work in
    let images = c.as_slice-image-items.result.now in
    let i = c.loop-image.image-index in
    let l = c.loop-image-test.true in
    let before = c.loop-image.invariant in
    record {
      rest = next_done (copy_node (world_of_unit g.B.Behaviour.meaning c.args.unit.now) c.args.images.now) images i _ w w' l (sym (get_or_default images i _ _ l)) c.in_ok-copy_node.ensures.carries.meets ∙ before.rest;
      ready = c.in_ok-copy_node.ensures.goes.ready;
      grown = grown_on w0 w w' before.grown c.in_ok-copy_node.ensures.goes.grown;
      view = c.copy_node.ensures.carries.view ∙ before.view;
      since = c.copy_node.ensures.carries.since ∙ before.since;
    }
