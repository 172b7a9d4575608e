use Rattle.std.proofs.Common.{◌≡◌, ap, sym, subst, ◌∙◌}
use Rattle.std.specs.Prelude.{Some, None, true, false}
use Rattle.std.proofs.Math.Facts.{to_z-of_z}
use Rattle.jpa_behaviour.specs.Served.{world_of_unit}
use Rattle.jpa_work.specs.heap.Objects.{place_of}
use Rattle.jpa_provider.specs.Serving.{machine_of, manager_in, is_begun_status, named, Serves}
use Rattle.jpa_provider.specs.declared.replies.Rule.{Rule}
use Rattle.jpa_machine.specs.machine.Machine.{work_of}
use Rattle.jpa_provider.specs.Operations.{at_object, on_numbered, EndsSo}
use Rattle.jpa_machine.specs.machine.Routes.{required_of, stands_numbered}
use Rattle.jpa_provider.proofs.Opened.{refusal}
use Rattle.jpa_provider.proofs.Routed.{begun_alone, begun_so, object_idle}
use Rattle.jpa_provider.proofs.working.in_transaction.Goals as goal

pub returns-in_default-clause-step : goal.returns-in_default-clause-step
returns-in_default-clause-step g c = λ e.
    let s = c.args.session.now in
    let world = world_of_unit g.B.Behaviour.meaning c.args.unit.now in
    let none : named s c.args.em ≡ None = ap (named s) (sym (to_z-of_z c.ranges.em)) ∙ sym c.in_default.ensures.named in
    subst (λ r. Serves world s c.args.call r s) (sym c.because.ensures)
    (begun_alone world s c.args.em (stands_numbered c.args.object) (on_numbered c.args.object (at_object c.args.call)) c.args.call e none)

pub returns-clause-step : goal.returns-clause-step
returns-clause-step g c = λ e.
    let s = c.args.session.now in
    let m = c.in-Some.manager in
    let world = world_of_unit g.B.Behaviour.meaning c.args.unit.now in
    let op = on_numbered c.args.object (at_object c.args.call) in
    let is : named s c.args.em ≡ Some m = ap (named s) (sym (to_z-of_z c.ranges.em)) ∙ sym c.in-Some.ensures.named in
    let begun : is_begun_status (manager_in s.managers.items m).status ≡ true = ap is_begun_status (sym c.status_of.ensures) ∙ sym c.is_begun.ensures ∙ c.if-not-is_begun.false in
    begun_so world s c.args.em (stands_numbered c.args.object) op c.args.call e c.numbered.new.session m c.numbered.result is begun
    (subst (λ z. EndsSo Rule.OfManager (machine_of s) m (on_numbered z (at_object c.args.call) world (work_of (machine_of s) m)) c.numbered.result (machine_of c.numbered.new.session)) (to_z-of_z c.ranges.object) c.numbered.ensures.ends)

pub returns-then-not-is_begun-clause-step : goal.returns-then-not-is_begun-clause-step
returns-then-not-is_begun-clause-step g c = λ e.
    let s = c.args.session.now in
    let m = c.in-Some.manager in
    let world = world_of_unit g.B.Behaviour.meaning c.args.unit.now in
    let is : named s c.args.em ≡ Some m = ap (named s) (sym (to_z-of_z c.ranges.em)) ∙ sym c.in-Some.ensures.named in
    let idle : is_begun_status (manager_in s.managers.items m).status ≡ false = ap is_begun_status (sym c.status_of.ensures) ∙ sym c.is_begun.ensures ∙ c.if-not-is_begun.true in
    let cause = c.required_of.ensures.required ∙ ap (λ z. required_of (place_of c.len.result z)) (to_z-of_z c.ranges.object) ∙ ap (λ k. required_of (place_of k c.args.object)) c.len.ensures in
    subst (λ r. Serves world s c.args.call r s) (sym (c.because-then-not-is_begun.ensures ∙ ap refusal cause))
    (object_idle world s c.args.em c.args.object (on_numbered c.args.object (at_object c.args.call)) c.args.call e m is idle)
