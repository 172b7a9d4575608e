use Rattle.std.proofs.Common.{◌≡◌, ap, sym, subst, ◌∙◌}
use Rattle.std.specs.Prelude.{Some}
use Rattle.std.proofs.Math.Facts.{to_z-of_z}
use Rattle.jpa_behaviour.specs.Served.{world_of_unit}
use Rattle.jpa_work.specs.context.Work.{Work}
use Rattle.jpa_work.specs.context.Steps.{Meets}
use Rattle.jpa_work.specs.context.Undo.{now}
use Rattle.jpa_operations.specs.fetch.Grown.{IsReady}
use Rattle.jpa_provider.specs.declared.replies.Rule.{Rule}
use Rattle.jpa_machine.specs.machine.Machine.{work_of}
use Rattle.jpa_machine.proofs.machine.AtWork.{work_ready}
use Rattle.jpa_provider.specs.Operations.{by_key}
use Rattle.jpa_provider.specs.Serving.{machine_of, named}
use Rattle.jpa_provider.proofs.Routed.{worked_so}
use Rattle.jpa_provider.proofs.Marked.{ready_after, still_marked}
use Rattle.jpa_provider.proofs.Operates.{finds}
use Rattle.jpa_provider.proofs.Told.{no_fault}
use Rattle.jpa_provider.proofs.Worked.{still_working, if_refused, ends_so}
use Rattle.jpa_provider.proofs.finding.find_call.Goals as goal

pub find_work-answered-requires : goal.find_work-answered-requires
find_work-answered-requires g c = record { ready = subst (IsReady c.args.unit.now.metamodel) (sym c.take_work.ensures.work) (work_ready c.in-Some.manager (c.requires.serving).machine) }

pub conclude-requires-clause-ready : goal.conclude-requires-clause-ready
conclude-requires-clause-ready g c =
    let M = machine_of c.args.session.now in
    let m = c.in-Some.manager in
    let world = world_of_unit g.B.Behaviour.meaning c.args.unit.now in
    let done = c.find_work-answered in
    let serving = c.requires.serving in
    let op = by_key c.args.call world in
    ready_after world M m done.result (now done.new.work) (op (work_of M m)) (subst (λ (w : Work). Meets done.result (now done.new.work) (op w)) c.take_work.ensures.work done.ensures.meets)
    (finds world M m serving.orderly serving.regular serving.machine c.args.call)

pub conclude-requires-clause-before : goal.conclude-requires-clause-before
conclude-requires-clause-before g c =
    let done = c.find_work-answered in
    (still_marked c.take_work.new.session done.new.work (c.take_work.ensures.marked c.args.unit.now.metamodel (c.requires.serving).marked) done.ensures.since).own

pub returns-clause-step : goal.returns-clause-step
returns-clause-step g c = λ e.
    let s = c.args.session.now in
    let M = machine_of s in
    let m = c.in-Some.manager in
    let world = world_of_unit g.B.Behaviour.meaning c.args.unit.now in
    let done = c.find_work-answered in
    let op = by_key c.args.call in
    let is : named s c.args.em ≡ Some m = ap (named s) (sym (to_z-of_z c.ranges.em)) ∙ sym c.in-Some.ensures.named in
    let working = still_working c.take_work.new.session done.new.work c.take_work.ensures.working done.ensures.since in
    let met = subst (λ (w : Work). Meets done.result (now done.new.work) (op world w)) c.take_work.ensures.work done.ensures.meets in
    worked_so world s c.args.em op c.args.call e c.conclude.new.session m c.conclude.result is
    (ends_so Rule.OfManager M (machine_of c.conclude.new.session) m (op world (work_of M m)) done.result (now done.new.work) c.conclude.result met
    (c.conclude.ensures.concludes M working.away (if_refused done.result working)))

pub returns-clause-rest : goal.returns-clause-rest
returns-clause-rest g c =
    let done = c.find_work-answered in
    let working = still_working c.take_work.new.session done.new.work c.take_work.ensures.working done.ensures.since in
    c.conclude.ensures.rest (machine_of c.args.session.now) working.away (if_refused done.result working)
    (still_marked c.take_work.new.session done.new.work (c.take_work.ensures.marked c.args.unit.now.metamodel (c.requires.serving).marked) done.ensures.since)

pub returns-clause-untold : goal.returns-clause-untold
returns-clause-untold g c =
    let world = world_of_unit g.B.Behaviour.meaning c.args.unit.now in
    let done = c.find_work-answered in
    c.conclude.ensures.untold (no_fault done.result (now done.new.work) (by_key c.args.call world (now c.take_work.new.session.work)) done.ensures.meets)
