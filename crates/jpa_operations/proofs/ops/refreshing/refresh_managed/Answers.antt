use Rattle.std.proofs.Common.{◌≡◌, ◌∙◌, ap, sym, subst, get_or, Some, rules}
use Rattle.std.proofs.lemmas.List.{get_or_default}
use Rattle.jpa_value.specs.declared.event.LifecycleEvent.{LifecycleEvent}
use Rattle.jpa_behaviour.specs.Served.{world_of_unit}
use Rattle.jpa_work.specs.declared.heap.LiveObject.{LiveObject}
use Rattle.jpa_work.specs.heap.Objects.{identity_of, no_object}
use Rattle.jpa_work.specs.context.Steps.{Meets}
use Rattle.jpa_work.specs.context.Undo.{now}
use Rattle.jpa_work.specs.context.Work.{identity_at, object}
use Rattle.jpa_lifecycle.specs.Callbacks.{callback}
use Rattle.jpa_operations.proofs.ops.Refreshed.{refreshes, reloaded_shape}
use Rattle.jpa_operations.proofs.ops.refreshing.refresh_managed.Goals as goal

pub callback-requires-clause-shape : goal.callback-requires-clause-shape
callback-requires-clause-shape g c =
    let world = world_of_unit g.B.Behaviour.meaning c.args.unit.now in
    reloaded_shape world c.args.object c.in-Some.id c.in_ok-row.row (now c.args.work.now) (now c.reload.new.work) c.requires.placed.view c.in_ok-row.ensures.row c.requires.object
    (c.in_ok-reload.ensures.ok world)

pub returns : goal.returns
returns g c =
    let world = world_of_unit g.B.Behaviour.meaning c.args.unit.now in
    let w = now c.args.work.now in
    let n = c.args.object in
    let x = c.index-as_slice-object.result in
    let own : x ≡ object w n = c.index-as_slice-object.is ∙ ap (λ xs. get_or xs n x) c.as_slice.ensures ∙ get_or_default w.objects n x no_object c.requires.object in
    let named : identity_at c.args.unit.now.metamodel w n ≡ Some c.in-Some.id = ap (λ (y : LiveObject). identity_of c.args.unit.now.metamodel y) (sym own) ∙ sym c.in_ok-id.ensures.ok ∙ c.in-Some.is in
    let whole = refreshes world n c.in-Some.id c.in_ok-row.row w named c.in_ok-row.ensures.row c.in_ok-row.ensures.class in
    record {
      meets = subst (Meets c.callback.result (now c.callback.new.work)) (ap (callback world LifecycleEvent.PostLoad n) (c.in_ok-reload.ensures.ok world) ∙ sym whole) c.callback.ensures.meets;
      view = search rules;
      since = search rules;
    }
