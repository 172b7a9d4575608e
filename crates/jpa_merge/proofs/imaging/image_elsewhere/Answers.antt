use Rattle.std.proofs.Common.{◌≡◌, ◌∙◌, List, ap, sym, get_or, None, rules}
use Rattle.std.proofs.lemmas.List.{get_or_default}
use Rattle.jpa_behaviour.specs.Served.{world_of_unit}
use Rattle.jpa_work.specs.declared.heap.LiveObject.{LiveObject}
use Rattle.jpa_work.specs.heap.Objects.{identity_of, no_object}
use Rattle.jpa_work.specs.context.Undo.{now}
use Rattle.jpa_work.specs.context.Work.{identity_at, object}
use Rattle.jpa_merge.proofs.Sought.{images_unnamed}
use Rattle.jpa_merge.proofs.imaging.image_elsewhere.Goals as goal

pub returns-in-None-clause-carries : goal.returns-in-None-clause-carries
returns-in-None-clause-carries g c =
    let m = c.args.unit.now.metamodel in
    let world = world_of_unit g.B.Behaviour.meaning c.args.unit.now in
    let w = now c.args.work.now in
    let n = c.args.node in
    let x = c.index-as_slice-node.result in
    let own : x ≡ object w n = c.index-as_slice-node.is ∙ ap (λ (os : List LiveObject). get_or os n x) c.as_slice.ensures ∙ get_or_default w.objects n x no_object c.requires.node in
    let unnamed : identity_at m w n ≡ None = ap (identity_of m) (sym own) ∙ sym c.in_ok-id.ensures.ok ∙ c.in-None.is in
    record {
      meets = images_unnamed world n w (now c.fresh_image.new.work) c.fresh_image.result unnamed (c.fresh_image.ensures.carries.meets world);
      view = search rules;
      since = search rules;
    }
