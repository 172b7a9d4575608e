use Rattle.std.proofs.Common.{◌≡◌, ◌∙◌, List, ap, sym, subst, get_or, rules}
use Rattle.std.specs.Prelude.{slice_set}
use Rattle.std.proofs.lemmas.List.{get_or_default}
use Rattle.jpa_work.specs.declared.heap.LiveObject.{LiveObject}
use Rattle.jpa_work.specs.heap.Objects.{no_object}
use Rattle.jpa_work.specs.context.Steps.{Done}
use Rattle.jpa_work.specs.context.Undo.{now}
use Rattle.jpa_work.specs.context.Work.{object}
use Rattle.jpa_operations.specs.fetch.Grown.{HasGrown, IsReady}
use Rattle.jpa_merge.proofs.Kept.{values_grown, values_ready}
use Rattle.jpa_merge.proofs.copying.copy_values.Goals as goal

pub returns : goal.returns
returns c =
    let m = c.args._metamodel.now in
    let w = now c.args.work.now in
    let x = c.args.image in
    let y = c.index-objects-image.result in
    let z = c.index-objects-image-2.result in
    let image : y ≡ object w x.image = c.index-objects-image.is ∙ ap (λ os. get_or os x.image y) c.as_slice-objects.ensures ∙ get_or_default w.objects x.image y no_object (c.requires.imaged).image in
    let node : get_or c.as_slice-objects.result.now x.node z ≡ object w x.node = ap (λ (os : List LiveObject). get_or os x.node z) c.as_slice-objects.ensures ∙ get_or_default w.objects x.node z no_object (c.requires.imaged).node in
    let live : LiveObject = record (c.in_ok-live.live) { values = c.in_ok-live-2.field-0 } in
    let own : c.in_ok-live.live ≡ object w x.image = c.in_ok-live.ensures.equal ∙ image in
    let values : c.in_ok-live-2.field-0 ≡ (object w x.node).values = c.in_ok-live-2.ensures.equal ∙ ap (λ (o : LiveObject). o.values) node in
    let copied : live ≡ record (object w x.image) { values = (object w x.node).values } = λ i. record (own i) { values = values i } in
    let changed = c.in_ok-set.ensures.changed ∙ ap (slice_set w.objects x.image) copied in
    record {
      carries = record {
        meets = ap (λ (os : List LiveObject). Done tt (record w { objects = os })) (sym changed);
        view = search rules;
        since = search rules;
      };
      goes = record {
        ready = subst (λ (os : List LiveObject). IsReady m (record w { objects = os })) (sym changed) (values_ready m w x c.requires.ready c.requires.imaged);
        grown = subst (λ (os : List LiveObject). HasGrown w (record w { objects = os })) (sym changed) (values_grown m w x c.requires.ready c.requires.imaged);
      };
    }
