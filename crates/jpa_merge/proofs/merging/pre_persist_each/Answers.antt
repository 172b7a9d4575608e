use Rattle.std.proofs.Common.{◌∙◌, sym}
use Rattle.std.proofs.lemmas.List.{get_or_default}
use Rattle.jpa_behaviour.specs.Served.{world_of_unit}
use Rattle.jpa_work.specs.context.Undo.{now}
use Rattle.jpa_operations.proofs.fetch.Grown.{grown_on}
use Rattle.jpa_merge.specs.Merge.{pre_persist_fresh}
use Rattle.jpa_merge.proofs.Passes.{next_done}
use Rattle.jpa_merge.proofs.merging.pre_persist_each.Goals as goal

pub loop-image-preserved : goal.loop-image-preserved
loop-image-preserved g c =
    let w0 = now c.args.work.now in
    let w = now c.loop-image.work in
    let w' = now c.pre_persist_fresh.new.work in
    let images = c.args.images.now in
    let i = c.loop-image.image-index in
    let l = c.loop-image-test.true in
    let before = c.loop-image.invariant in
    record {
      rest = next_done (pre_persist_fresh (world_of_unit g.B.Behaviour.meaning c.args.unit.now)) images i _ w w' l (sym (get_or_default images i _ _ l)) c.in_ok-pre_persist_fresh.ensures.carries.meets ∙ before.rest;
      ready = c.in_ok-pre_persist_fresh.ensures.goes.ready;
      grown = grown_on w0 w w' before.grown c.in_ok-pre_persist_fresh.ensures.goes.grown;
      view = c.pre_persist_fresh.ensures.carries.view ∙ before.view;
      since = c.pre_persist_fresh.ensures.carries.since ∙ before.since;
    }
