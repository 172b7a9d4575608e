use Rattle.std.proofs.Common.{◌≡◌, ◌∙◌, ◌<◌, ◌+◌, drop, true, false, List, length, ap, sym, subst, get_or}
use Rattle.std.specs.Prelude.{if◌then◌else◌}
use Rattle.std.specs.List.{enumerate_from}
use Rattle.std.proofs.lemmas.List.{get_or_default}
use Rattle.jpa_model.specs.declared.unit.Relation.{Relation}
use Rattle.jpa_model.specs.Chains.{relations_of}
use Rattle.jpa_behaviour.specs.Served.{world_of_unit}
use Rattle.jpa_work.specs.declared.heap.LiveObject.{LiveObject}
use Rattle.jpa_work.specs.heap.Objects.{no_object}
use Rattle.jpa_work.specs.declared.context.work.UnitOfWork.{UnitOfWork}
use Rattle.jpa_work.specs.context.Steps.{Done, done, each}
use Rattle.jpa_work.specs.context.Undo.{now, since}
use Rattle.jpa_work.specs.context.Work.{object}
use Rattle.jpa_operations.specs.fetch.Grown.{HasGrown, IsReady}
use Rattle.jpa_operations.proofs.fetch.Grown.{grown_on}
use Rattle.jpa_merge.specs.Merge.{copy_at, copy_relation, takes}
use Rattle.jpa_merge.proofs.Passes.{place_done}
use Rattle.jpa_merge.proofs.copying.copy_relations.Goals as goal
use Rattle.jpa_merge.proofs.copying.copy_relations.Goals.{then-takes+in_ok-copy_relation, else-takes}

pub loop-relation-preserved : goal.loop-relation-preserved
loop-relation-preserved g c =
    let m = c.args.unit.now.metamodel in
    let world = world_of_unit g.B.Behaviour.meaning c.args.unit.now in
    let w0 = now c.args.work.now in
    let w = now c.loop-relation.work in
    let image = c.args.image in
    let images = c.args.images.now in
    let i = c.loop-relation.relation in
    let x = c.index-relations-relation.result in
    let y = c.index-as_slice-image.result in
    let own : get_or c.as_slice.result.now image.node y ≡ object w0 image.node = ap (λ (os : List LiveObject). get_or os image.node y) c.as_slice.ensures ∙ get_or_default w0.objects image.node y no_object (c.requires.image).node in
    let relations = relations_of m (object w0 image.node).class in
    let same : c.relations_of-relations.result.now ≡ relations = c.relations_of-relations.ensures.relations ∙ ap (λ (o : LiveObject). relations_of m o.class) own in
    let l : i < length relations = subst (λ (rs : List Relation). i < length rs) same c.loop-relation-test.true in
    let read : x ≡ get_or relations i x = c.index-relations-relation.is ∙ ap (λ (rs : List Relation). get_or rs i x) same in
    let before = c.loop-relation.invariant in
    elim c.if-takes.branch [
      | then-takes+in_ok-copy_relation v ↦
          let u = now v.copy_relation.new.work in
          let taken : takes image x ≡ true = sym c.takes.ensures ∙ v.if-takes.true in
          let copied : copy_relation world images image (i, x) w ≡ Done tt u = ap (λ b. (if b then copy_at world images image i else done) w) taken ∙ v.in_ok-copy_relation.ensures.carries.meets in
          record {
            rest = ap (λ (z : UnitOfWork). each (copy_relation world images image) (enumerate_from (i + 1) (drop (i + 1) relations)) (now z)) v.work-is ∙ place_done (copy_relation world images image) relations i x w l read u copied ∙ before.rest;
            ready = subst (λ (z : UnitOfWork). IsReady m (now z)) (sym v.work-is) v.in_ok-copy_relation.ensures.goes.ready;
            grown = subst (λ (z : UnitOfWork). HasGrown w0 (now z)) (sym v.work-is) (grown_on w0 w u before.grown v.in_ok-copy_relation.ensures.goes.grown);
            view = ap (λ (z : UnitOfWork). z.view) v.work-is ∙ v.copy_relation.ensures.carries.view ∙ before.view;
            since = ap (λ (z : UnitOfWork). since z) v.work-is ∙ v.copy_relation.ensures.carries.since ∙ before.since;
          }
      | else-takes v ↦
          let passed : takes image x ≡ false = sym c.takes.ensures ∙ v.if-takes.false in
          let copied : copy_relation world images image (i, x) w ≡ Done tt w = ap (λ b. (if b then copy_at world images image i else done) w) passed in
          record {
            rest = ap (λ (z : UnitOfWork). each (copy_relation world images image) (enumerate_from (i + 1) (drop (i + 1) relations)) (now z)) v.work-is ∙ place_done (copy_relation world images image) relations i x w l read w copied ∙ before.rest;
            ready = subst (λ (z : UnitOfWork). IsReady m (now z)) (sym v.work-is) before.ready;
            grown = subst (λ (z : UnitOfWork). HasGrown w0 (now z)) (sym v.work-is) before.grown;
            view = ap (λ (z : UnitOfWork). z.view) v.work-is ∙ before.view;
            since = ap (λ (z : UnitOfWork). since z) v.work-is ∙ before.since;
          }
    ]
