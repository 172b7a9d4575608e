use Rattle.std.proofs.Common.{◌≡◌, ◌∙◌, ◌++◌, ◌+◌, ◌∷◌, [], drop, ap, sym, subst}
use Rattle.std.proofs.lemmas.List.Elements.{All-push}
use Rattle.jpa_behaviour.specs.Served.{world_of_unit}
use Rattle.jpa_cascade.specs.Waves.{live_nodes}
use Rattle.jpa_work.specs.declared.context.work.UnitOfWork.{UnitOfWork}
use Rattle.jpa_work.specs.context.Undo.{now, since}
use Rattle.jpa_operations.specs.fetch.Grown.{HasGrown, IsReady}
use Rattle.jpa_operations.specs.fetch.Members.{collect}
use Rattle.jpa_operations.proofs.fetch.Collected.{behind}
use Rattle.jpa_operations.proofs.fetch.Grown.{grown_on}
use Rattle.jpa_merge.specs.Imaged.{AreImaged, IsImaged}
use Rattle.jpa_merge.specs.Merge.{image_of_node}
use Rattle.jpa_merge.proofs.Kept.{are_imaged_on}
use Rattle.jpa_merge.proofs.Passes.{bare_passed, live_done}
use Rattle.jpa_merge.proofs.imaging.images_of.Goals as goal
use Rattle.jpa_merge.proofs.imaging.images_of.Goals.{in-Live+in_ok-image+in_ok-push, in_default}

pub loop-node-preserved : goal.loop-node-preserved
loop-node-preserved g c =
    let m = c.args.unit.now.metamodel in
    let image = image_of_node (world_of_unit g.B.Behaviour.meaning c.args.unit.now) in
    let w0 = now c.args.work.now in
    let w = now c.loop-node.work in
    let nodes = c.args.nodes.now in
    let i = c.loop-node.node-index in
    let x = c.node-item.result in
    let so_far = c.loop-node.images in
    let before = c.loop-node.invariant in
    elim c.match-node.branch [
      | in-Live+in_ok-image+in_ok-push v ↦
          let u = now v.image_of_node.new.work in
          let y = v.in_ok-image.image in
          let more : c.match-node.images ≡ so_far ++ y ∷ [] = v.images-is ∙ v.in_ok-push.ensures.ok in
          let imaged : AreImaged u (so_far ++ y ∷ []) = All-push (IsImaged u) so_far y (are_imaged_on w u so_far v.in_ok-image.ensures.goes.grown before.imaged) v.in_ok-image.ensures.imaged in
          record {
            rest = (λ k. behind (more k) (collect image (live_nodes (drop (i + 1) nodes)) (now (v.work-is k)))) ∙ live_done image nodes i x c.loop-node-test.true c.node-item.is v.in-Live.object so_far y w u v.in-Live.is v.in_ok-image.ensures.carries.meets ∙ before.rest;
            imaged = subst (λ (z : UnitOfWork). AreImaged (now z) c.match-node.images) (sym v.work-is) (subst (AreImaged u) (sym more) imaged);
            ready = subst (λ (z : UnitOfWork). IsReady m (now z)) (sym v.work-is) v.in_ok-image.ensures.goes.ready;
            grown = subst (λ (z : UnitOfWork). HasGrown w0 (now z)) (sym v.work-is) (grown_on w0 w u before.grown v.in_ok-image.ensures.goes.grown);
            view = ap (λ (z : UnitOfWork). z.view) v.work-is ∙ v.image_of_node.ensures.carries.view ∙ before.view;
            since = ap (λ (z : UnitOfWork). since z) v.work-is ∙ v.image_of_node.ensures.carries.since ∙ before.since;
          }
      | in_default v ↦
          record {
            rest = (λ k. behind (v.images-is k) (collect image (live_nodes (drop (i + 1) nodes)) (now (v.work-is k)))) ∙ bare_passed image nodes i x c.loop-node-test.true c.node-item.is v.in_default.field-0 so_far w v.in_default.is ∙ before.rest;
            imaged = subst (λ (z : UnitOfWork). AreImaged (now z) c.match-node.images) (sym v.work-is) (subst (AreImaged w) (sym v.images-is) before.imaged);
            ready = subst (λ (z : UnitOfWork). IsReady m (now z)) (sym v.work-is) before.ready;
            grown = subst (λ (z : UnitOfWork). HasGrown w0 (now z)) (sym v.work-is) before.grown;
            view = ap (λ (z : UnitOfWork). z.view) v.work-is ∙ before.view;
            since = ap (λ (z : UnitOfWork). since z) v.work-is ∙ before.since;
          }
    ]
