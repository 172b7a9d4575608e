use Rattle.std.proofs.Common.{◌<◌, length, ap, sym, subst}
use Rattle.jpa_open.specs.Opened.{Opened}
use Rattle.jpa_behaviour.specs.Served.{world_of_unit}
use Rattle.jpa_work.specs.context.Work.{Work}
use Rattle.jpa_work.specs.context.Steps.{Meets}
use Rattle.jpa_work.specs.context.Undo.{now}
use Rattle.jpa_operations.specs.fetch.Grown.{IsReady}
use Rattle.jpa_machine.specs.machine.Machine.{work_of}
use Rattle.jpa_provider.specs.Operations.{at_object}
use Rattle.jpa_provider.specs.Serving.{machine_of}
use Rattle.jpa_machine.proofs.machine.AtWork.{work_ready}
use Rattle.jpa_provider.proofs.Marked.{keeps_away, ready_after}
use Rattle.jpa_provider.proofs.Operates.{operates}
use Rattle.jpa_provider.proofs.Told.{no_fault}
use Rattle.jpa_provider.proofs.Worked.{still_away, still_working, on_err, ends_so}
use Rattle.jpa_provider.proofs.working.at_work.Goals as goal

pub operate-answered-requires : goal.operate-answered-requires
operate-answered-requires g c = record {
  orderly = (c.requires.serving).orderly;
  ready = subst (IsReady c.args.unit.now.metamodel) (sym c.take_work.ensures.work) (work_ready c.args.manager (c.requires.serving).machine);
  object = subst (λ (w : Work). c.args.place < length w.objects) (sym c.take_work.ensures.work) c.requires.object;
  kept = c.take_work.ensures.kept;
}

pub conclude-requires-clause-ready : goal.conclude-requires-clause-ready
conclude-requires-clause-ready g c =
    let M = machine_of c.args.session.now in
    let m = c.args.manager in
    let world = world_of_unit g.B.Behaviour.meaning c.args.unit.now in
    let op = at_object c.args.call world c.args.place in
    let done = c.operate-answered in
    let serving = c.requires.serving in
    let met = subst (λ (w : Work). Meets done.result (now done.new.work) (op w)) c.take_work.ensures.work done.ensures.meets in
    ready_after world M m done.result (now done.new.work) (op (work_of M m)) met (operates world M m serving.orderly serving.regular serving.machine c.args.call c.hands_representable.ensures c.args.place c.requires.object)

pub conclude-requires-clause-before : goal.conclude-requires-clause-before
conclude-requires-clause-before g c =
    let done = c.operate-answered in
    (keeps_away c.take_work.new.session done.new.work done.ensures.marked (c.take_work.ensures.marked c.args.unit.now.metamodel (c.requires.serving).marked)).own

pub returns-clause-ends : goal.returns-clause-ends
returns-clause-ends g c =
    let M = machine_of c.args.session.now in
    let m = c.args.manager in
    let world = world_of_unit g.B.Behaviour.meaning c.args.unit.now in
    let op = at_object c.args.call world c.args.place in
    let done = c.operate-answered in
    let s = c.take_work.new.session in
    let away = still_away s done.new.work (c.take_work.ensures.working).away (ap (λ (w : Opened). w.kept) done.ensures.view) (ap (λ (w : Opened). w.begun) done.ensures.view) (ap (λ (w : Opened). w.committed) done.ensures.view) in
    let working = on_err done.result (still_working s done.new.work c.take_work.ensures.working) done.ensures.since in
    let met = subst (λ (w : Work). Meets done.result (now done.new.work) (op w)) c.take_work.ensures.work done.ensures.meets in
    ends_so c.args.rule M (machine_of c.conclude.new.session) m (op (work_of M m)) done.result (now done.new.work) c.conclude.result met
    (c.conclude.ensures.concludes M away working)

pub returns-clause-untold : goal.returns-clause-untold
returns-clause-untold g c =
    let world = world_of_unit g.B.Behaviour.meaning c.args.unit.now in
    let done = c.operate-answered in
    c.conclude.ensures.untold (no_fault done.result (now done.new.work) (at_object c.args.call world c.args.place (now c.take_work.new.session.work)) done.ensures.meets)

pub returns-clause-rest : goal.returns-clause-rest
returns-clause-rest g c =
    let done = c.operate-answered in
    let s = c.take_work.new.session in
    c.conclude.ensures.rest (machine_of c.args.session.now)
    (still_away s done.new.work (c.take_work.ensures.working).away (ap (λ (w : Opened). w.kept) done.ensures.view) (ap (λ (w : Opened). w.begun) done.ensures.view) (ap (λ (w : Opened). w.committed) done.ensures.view))
    (on_err done.result (still_working s done.new.work c.take_work.ensures.working) done.ensures.since)
    (keeps_away s done.new.work done.ensures.marked (c.take_work.ensures.marked c.args.unit.now.metamodel (c.requires.serving).marked))
