use Rattle.std.proofs.Common.{◌≡◌, ap, sym, subst, ◌∙◌}
use Rattle.std.specs.Prelude.{Some}
use Rattle.std.proofs.Math.Facts.{to_z-of_z}
use Rattle.jpa_behaviour.specs.Served.{world_of_unit}
use Rattle.jpa_machine.specs.machine.Machine.{work_of}
use Rattle.jpa_provider.specs.declared.replies.Rule.{Rule}
use Rattle.jpa_provider.specs.Operations.{at_object, on_numbered, EndsSo}
use Rattle.jpa_provider.specs.Serving.{machine_of, named}
use Rattle.jpa_provider.proofs.Routed.{worked_so}
use Rattle.jpa_provider.proofs.working.worked.Goals as goal

pub returns-clause-step : goal.returns-clause-step
returns-clause-step g c = λ e.
    let s = c.args.session.now in
    let world = world_of_unit g.B.Behaviour.meaning c.args.unit.now in
    let m = c.in-Some.manager in
    let is : named s c.args.em ≡ Some m = ap (named s) (sym (to_z-of_z c.ranges.em)) ∙ sym c.in-Some.ensures.named in
    worked_so world s c.args.em (on_numbered c.args.object (at_object c.args.call)) c.args.call e c.numbered.new.session m c.numbered.result is
    (subst (λ z. EndsSo Rule.OfManager (machine_of s) m (on_numbered z (at_object c.args.call) world (work_of (machine_of s) m)) c.numbered.result (machine_of c.numbered.new.session)) (to_z-of_z c.ranges.object) c.numbered.ensures.ends)
