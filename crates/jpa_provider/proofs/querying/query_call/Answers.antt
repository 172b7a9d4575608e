use Rattle.std.proofs.Common.{◌≡◌, ap, sym, subst, ◌∙◌}
use Rattle.std.specs.Prelude.{Some}
use Rattle.std.proofs.Math.Facts.{to_z-of_z}
use Rattle.jpa_behaviour.specs.Served.{world_of_unit}
use Rattle.jpa_work.specs.context.Work.{Work}
use Rattle.jpa_work.specs.context.Steps.{Meets}
use Rattle.jpa_work.specs.context.Undo.{now}
use Rattle.jpa_queries.specs.Premises.{StaysReady}
use Rattle.jpa_provider.specs.declared.replies.Rule.{Rule}
use Rattle.jpa_machine.specs.machine.Machine.{flushes_in, flushes_first, work_of}
use Rattle.jpa_provider.specs.Operations.{by_query}
use Rattle.jpa_provider.specs.Serving.{machine_of, is_begun_status, named}
use Rattle.jpa_provider.proofs.Active.{can_flush, query_ready}
use Rattle.jpa_provider.proofs.Routed.{asked_so}
use Rattle.jpa_provider.proofs.Sessions.{begun_there, manager_there}
use Rattle.jpa_provider.proofs.Marked.{ready_after, still_marked}
use Rattle.jpa_provider.proofs.Operates.{asks}
use Rattle.jpa_provider.proofs.Told.{no_fault}
use Rattle.jpa_provider.proofs.Worked.{still_working, if_refused, ends_so}
use Rattle.jpa_provider.proofs.querying.query_call.Goals as goal

pub query_work-answered-requires-clause-can_flush : goal.query_work-answered-requires-clause-can_flush
query_work-answered-requires-clause-can_flush g c =
    let world = world_of_unit g.B.Behaviour.meaning c.args.unit.now in
    let serving = c.requires.serving in
    can_flush world c.args.session.now c.take_work.new.session c.in-Some.manager serving c.take_work.ensures.work (c.take_work.ensures.marked world.model serving.marked)

pub query_work-answered-requires-clause-then_ready : goal.query_work-answered-requires-clause-then_ready
query_work-answered-requires-clause-then_ready g c =
    let world = world_of_unit g.B.Behaviour.meaning c.args.unit.now in
    subst (StaysReady c.flushes_first-flushes.result world) (sym c.take_work.ensures.work) (query_ready world c.args.session.now c.in-Some.manager c.requires.serving c.flushes_first-flushes.result)

pub conclude-requires-clause-ready : goal.conclude-requires-clause-ready
conclude-requires-clause-ready g c =
    let M = machine_of c.args.session.now in
    let m = c.in-Some.manager in
    let world = world_of_unit g.B.Behaviour.meaning c.args.unit.now in
    let done = c.query_work-answered in
    let serving = c.requires.serving in
    let first = c.flushes_first-flushes.result in
    let op = by_query c.args.call first world in
    ready_after world M m done.result (now done.new.work) (op (work_of M m)) (subst (λ (w : Work). Meets done.result (now done.new.work) (op w)) c.take_work.ensures.work done.ensures.meets)
    (asks world M m serving.orderly serving.regular serving.machine c.args.call first)

pub conclude-requires-clause-before : goal.conclude-requires-clause-before
conclude-requires-clause-before g c =
    let done = c.query_work-answered in
    (still_marked c.take_work.new.session done.new.work (c.take_work.ensures.marked c.args.unit.now.metamodel (c.requires.serving).marked) done.ensures.since).own

pub returns-clause-step : goal.returns-clause-step
returns-clause-step g c = λ e.
    let s = c.args.session.now in
    let M = machine_of s in
    let m = c.in-Some.manager in
    let world = world_of_unit g.B.Behaviour.meaning c.args.unit.now in
    let done = c.query_work-answered in
    let op = by_query c.args.call in
    let is : named s c.args.em ≡ Some m = ap (named s) (sym (to_z-of_z c.ranges.em)) ∙ sym c.in-Some.ensures.named in
    let at = manager_there s m in
    let flushes : c.flushes_first-flushes.result ≡ flushes_first M m =
    c.flushes_first-flushes.ensures ∙ (λ i. flushes_in (is_begun_status (c.status_of.ensures i)) (c.mode_of.ensures i))
    ∙ (λ i. flushes_in (sym (begun_there s m) i) (sym at i).mode) in
    let working = still_working c.take_work.new.session done.new.work c.take_work.ensures.working done.ensures.since in
    let met = subst (λ b. Meets done.result (now done.new.work) (op b world (work_of M m))) flushes
    (subst (λ (w : Work). Meets done.result (now done.new.work) (op c.flushes_first-flushes.result world w)) c.take_work.ensures.work done.ensures.meets) in
    asked_so world s c.args.em op c.args.call e c.conclude.new.session m c.conclude.result is
    (ends_so Rule.OfManager M (machine_of c.conclude.new.session) m (op (flushes_first M m) world (work_of M m)) done.result (now done.new.work) c.conclude.result met
    (c.conclude.ensures.concludes M working.away (if_refused done.result working)))

pub returns-clause-rest : goal.returns-clause-rest
returns-clause-rest g c =
    let done = c.query_work-answered in
    let working = still_working c.take_work.new.session done.new.work c.take_work.ensures.working done.ensures.since in
    c.conclude.ensures.rest (machine_of c.args.session.now) working.away (if_refused done.result working)
    (still_marked c.take_work.new.session done.new.work (c.take_work.ensures.marked c.args.unit.now.metamodel (c.requires.serving).marked) done.ensures.since)

pub returns-clause-untold : goal.returns-clause-untold
returns-clause-untold g c =
    let world = world_of_unit g.B.Behaviour.meaning c.args.unit.now in
    let done = c.query_work-answered in
    c.conclude.ensures.untold (no_fault done.result (now done.new.work) (by_query c.args.call c.flushes_first-flushes.result world (now c.take_work.new.session.work)) done.ensures.meets)
