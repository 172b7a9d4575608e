use Rattle.std.proofs.Common.{◌≡◌, ◌⊎◌, List, ap, sym, subst, ◌∙◌, rules}
use Rattle.std.specs.Prelude.{Err}
use Rattle.jpa_value.specs.declared.refusal.Cause.{Cause}
use Rattle.jpa_behaviour.specs.Served.{world_of_unit}
use Rattle.jpa_work.specs.declared.heap.LiveObject.{LiveObject}
use Rattle.jpa_work.specs.heap.Assign.{set_in}
use Rattle.jpa_work.specs.heap.Shape.{IsInHeap}
use Rattle.jpa_work.specs.context.Steps.{IsRefusedAs}
use Rattle.jpa_work.specs.context.Undo.{now}
use Rattle.jpa_machine.specs.machine.Routes.{set_call}
use Rattle.jpa_provider.proofs.Called.{set_refused, set_assigned}
use Rattle.jpa_provider.proofs.operating.set_at.Goals as goal

pub assign-requires-clause-handed : goal.assign-requires-clause-handed
assign-requires-clause-handed g c =
    subst (λ (os : List LiveObject). IsInHeap os c.in_ok-handed.handed) (sym c.as_slice.ensures) (c.in_ok-handed.ensures.within (now c.args.work.now) (sym c.len.ensures))

pub returns-in_err-changed : goal.returns-in_err-changed
returns-in_err-changed g c =
    let model = c.args.unit.now.metamodel in
    let world = world_of_unit g.B.Behaviour.meaning c.args.unit.now in
    let w = now c.args.work.now in
    let os = w.objects in
    let n = c.args.place in
    let name = c.args.name.now in
    let h = c.in_ok-handed.handed in
    let r = c.in_err-changed.field-0.0 in
    let why : (r ≡ Cause.OutOfMemory) ⊎ (Err r ≡ set_in model os n name h) = subst (λ (ys : List LiveObject). (r ≡ Cause.OutOfMemory) ⊎ (Err r ≡ set_in model ys n name h)) c.as_slice.ensures c.in_err-changed.ensures in
    let refused : IsRefusedAs r w.events (set_call world name c.args.value n w) =
    set_refused model os n name h r w.events (set_call world name c.args.value n w) why
    (set_assigned world name c.args.value w n h (Err r) (c.in_ok-handed.ensures.meets w (sym c.len.ensures))) in
    record {
      meets = search (rules, refused);
      view = search rules;
      since = search rules;
    }
