use Rattle.std.proofs.Common.{◌≡◌, ◌<◌, inl, length, ap, sym, subst, ◌∙◌, arith}
use Rattle.std.specs.Prelude.{Some, None}
use Rattle.std.proofs.Math.Facts.{to_z-of_z}
use Rattle.jpa_value.specs.declared.refusal.Cause.{Cause}
use Rattle.jpa_behaviour.specs.Served.{world_of_unit}
use Rattle.jpa_work.specs.heap.Objects.{place_of}
use Rattle.jpa_work.specs.context.Steps.{Outcome}
use Rattle.jpa_protocol.specs.declared.reply.Answer.{Answer}
use Rattle.jpa_machine.specs.machine.Machine.{work_of}
use Rattle.jpa_provider.specs.declared.replies.Rule.{Rule}
use Rattle.jpa_provider.specs.Operations.{at_object, EndsSo}
use Rattle.jpa_provider.specs.Serving.{machine_of}
use Rattle.jpa_provider.proofs.Called.{numbered}
use Rattle.jpa_provider.proofs.Routed.{unknown_so}
use Rattle.jpa_provider.proofs.working.numbered.Goals as goal

pub at_work-requires-clause-object : goal.at_work-requires-clause-object
at_work-requires-clause-object g c =
    let counted = c.len.ensures in
    let within = c.in-Some.ensures.within in
    omega (arith, counted, within)

pub returns-in_default-clause-ends : goal.returns-in_default-clause-ends
returns-in_default-clause-ends g c =
    let s = c.args.session.now in
    let world = world_of_unit g.B.Behaviour.meaning c.args.unit.now in
    let place : place_of (length s.work.objects.now) c.args.object ≡ None =
    ap (λ k. place_of k c.args.object) (sym c.len.ensures) ∙ ap (place_of c.len.result) (sym (to_z-of_z c.ranges.object)) ∙ sym c.in_default.ensures.place in
    unknown_so world (machine_of s) c.args.manager c.args.object (at_object c.args.call) c.because.result place c.because.ensures

pub returns-clause-ends : goal.returns-clause-ends
returns-clause-ends g c =
    let s = c.args.session.now in
    let M = machine_of s in
    let m = c.args.manager in
    let world = world_of_unit g.B.Behaviour.meaning c.args.unit.now in
    let place : place_of (length s.work.objects.now) c.args.object ≡ Some c.in-Some.place =
    ap (λ k. place_of k c.args.object) (sym c.len.ensures) ∙ ap (place_of c.len.result) (sym (to_z-of_z c.ranges.object)) ∙ sym c.in-Some.ensures.place in
    subst (λ (o : Outcome Answer). EndsSo Rule.OfManager M m o c.at_work.result (machine_of c.at_work.new.session)) (sym (numbered (at_object c.args.call) world c.args.object c.in-Some.place (work_of M m) place)) c.at_work.ensures.ends
