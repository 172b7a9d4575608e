use Rattle.std.proofs.Common.{◌≡◌, false, true, ap, sym, subst, ◌∙◌}
use Rattle.std.specs.Prelude.{Some}
use Rattle.std.proofs.Math.Facts.{to_z-of_z}
use Rattle.jpa_behaviour.specs.Served.{world_of_unit}
use Rattle.jpa_work.specs.context.Work.{Work}
use Rattle.jpa_work.specs.context.Steps.{Meets}
use Rattle.jpa_work.specs.context.Undo.{now}
use Rattle.jpa_protocol.specs.declared.call.Call.{Call}
use Rattle.jpa_provider.specs.declared.replies.Rule.{Rule}
use Rattle.jpa_machine.specs.machine.Machine.{work_of}
use Rattle.jpa_machine.specs.machine.Routes.{flush_call}
use Rattle.jpa_provider.specs.Serving.{machine_of, manager_in, is_begun_status, named, Serves}
use Rattle.jpa_provider.proofs.Active.{can_flush}
use Rattle.jpa_provider.proofs.Operates.{flushes}
use Rattle.jpa_provider.proofs.Routed.{flush_idle, flush_so}
use Rattle.jpa_provider.proofs.Marked.{ready_after, still_marked}
use Rattle.jpa_provider.proofs.Told.{no_fault}
use Rattle.jpa_provider.proofs.Worked.{still_working, if_refused, ends_so}
use Rattle.jpa_provider.proofs.flushing.flush_call.Goals as goal

pub flush_work-answered-requires : goal.flush_work-answered-requires
flush_work-answered-requires g c =
    let world = world_of_unit g.B.Behaviour.meaning c.args.unit.now in
    let serving = c.requires.serving in
    can_flush world c.args.session.now c.take_work.new.session c.in-Some.manager serving c.take_work.ensures.work (c.take_work.ensures.marked world.model serving.marked)

pub conclude-requires-clause-ready : goal.conclude-requires-clause-ready
conclude-requires-clause-ready g c =
    let M = machine_of c.args.session.now in
    let m = c.in-Some.manager in
    let world = world_of_unit g.B.Behaviour.meaning c.args.unit.now in
    let done = c.flush_work-answered in
    let serving = c.requires.serving in
    let w : Work = work_of M m in
    let met = subst (λ (v : Work). Meets done.result (now done.new.work) (flush_call world v)) c.take_work.ensures.work done.ensures.meets in
    ready_after world M m done.result (now done.new.work) (flush_call world w) met (flushes world M m serving.orderly serving.regular serving.machine)

pub conclude-requires-clause-before : goal.conclude-requires-clause-before
conclude-requires-clause-before g c =
    let done = c.flush_work-answered in
    (still_marked c.take_work.new.session done.new.work (c.take_work.ensures.marked c.args.unit.now.metamodel (c.requires.serving).marked) done.ensures.since).own

pub returns-clause-step : goal.returns-clause-step
returns-clause-step g c =
    let s = c.args.session.now in
    let M = machine_of s in
    let m = c.in-Some.manager in
    let world = world_of_unit g.B.Behaviour.meaning c.args.unit.now in
    let done = c.flush_work-answered in
    let is : named s c.args.em ≡ Some m = ap (named s) (sym (to_z-of_z c.ranges.em)) ∙ sym c.in-Some.ensures.named in
    let begun : is_begun_status (manager_in s.managers.items m).status ≡ true = ap is_begun_status (sym c.status_of.ensures) ∙ sym c.is_begun.ensures ∙ c.if-not-is_begun.false in
    let working = still_working c.take_work.new.session done.new.work c.take_work.ensures.working done.ensures.since in
    let met = subst (λ (w : Work). Meets done.result (now done.new.work) (flush_call world w)) c.take_work.ensures.work done.ensures.meets in
    flush_so world s c.args.em c.conclude.new.session m c.conclude.result is begun
    (ends_so Rule.OfManager M (machine_of c.conclude.new.session) m (flush_call world (work_of M m)) done.result (now done.new.work) c.conclude.result met
    (c.conclude.ensures.concludes M working.away (if_refused done.result working)))

pub returns-clause-rest : goal.returns-clause-rest
returns-clause-rest g c =
    let done = c.flush_work-answered in
    let working = still_working c.take_work.new.session done.new.work c.take_work.ensures.working done.ensures.since in
    c.conclude.ensures.rest (machine_of c.args.session.now) working.away (if_refused done.result working)
    (still_marked c.take_work.new.session done.new.work (c.take_work.ensures.marked c.args.unit.now.metamodel (c.requires.serving).marked) done.ensures.since)

pub returns-clause-untold : goal.returns-clause-untold
returns-clause-untold g c =
    let world = world_of_unit g.B.Behaviour.meaning c.args.unit.now in
    let done = c.flush_work-answered in
    c.conclude.ensures.untold (no_fault done.result (now done.new.work) (flush_call world (now c.take_work.new.session.work)) done.ensures.meets)

pub returns-then-not-is_begun-clause-step : goal.returns-then-not-is_begun-clause-step
returns-then-not-is_begun-clause-step g c =
    let s = c.args.session.now in
    let m = c.in-Some.manager in
    let world = world_of_unit g.B.Behaviour.meaning c.args.unit.now in
    let is : named s c.args.em ≡ Some m = ap (named s) (sym (to_z-of_z c.ranges.em)) ∙ sym c.in-Some.ensures.named in
    let idle : is_begun_status (manager_in s.managers.items m).status ≡ false = ap is_begun_status (sym c.status_of.ensures) ∙ sym c.is_begun.ensures ∙ c.if-not-is_begun.true in
    subst (λ r. Serves world s (Call.Flush c.args.em) r s) (sym c.because-then-not-is_begun.ensures) (flush_idle world s c.args.em m is idle)
