use Rattle.std.proofs.Common.{◌≡◌, ℕ, true, ap, sym, subst, ◌∙◌, map, List}
use Rattle.std.specs.Prelude.{Some}
use Rattle.std.specs.List.{filter}
use Rattle.std.proofs.Math.Facts.{to_z-of_z}
use Rattle.jpa_behaviour.specs.Served.{world_of_unit}
use Rattle.jpa_work.specs.context.Work.{Work}
use Rattle.jpa_flush.specs.flush.Flush.{flush}
use Rattle.jpa_protocol.specs.declared.call.Call.{Call}
use Rattle.jpa_protocol.specs.declared.reply.Reply.{Reply}
use Rattle.jpa_machine.specs.machine.Pending.{due, due_in, events_of, is_due}
use Rattle.jpa_provider.specs.Serving.{machine_of, manager_in, is_begun_status, named, Serves}
use Rattle.jpa_provider.proofs.Active.{can_flush}
use Rattle.jpa_provider.proofs.Marked.{still_marked}
use Rattle.jpa_provider.proofs.Own.{pending_told}
use Rattle.jpa_provider.proofs.Worked.{still_working}
use Rattle.jpa_provider.proofs.pending.pending_call.Goals as goal

pub flushed_due-due-requires : goal.flushed_due-due-requires
flushed_due-due-requires g c =
    let world = world_of_unit g.B.Behaviour.meaning c.args.unit.now in
    let serving = c.requires.serving in
    can_flush world c.args.session.now c.take_work.new.session c.in-Some.manager serving c.take_work.ensures.work (c.take_work.ensures.marked world.model serving.marked)

pub returns-in-Ok-clause-step : goal.returns-in-Ok-clause-step
returns-in-Ok-clause-step g c =
    let s = c.args.session.now in
    let M = machine_of s in
    let m = c.in-Some.manager in
    let t = c.restore.new.session in
    let world = world_of_unit g.B.Behaviour.meaning c.args.unit.now in
    let done = c.flushed_due-due in
    let is : named s c.args.em ≡ Some m = ap (named s) (sym (to_z-of_z c.ranges.em)) ∙ sym c.in-Some.ensures.named in
    let begun : is_begun_status (manager_in s.managers.items m).status ≡ true = ap is_begun_status (sym c.status_of.ensures) ∙ sym c.is_begun.ensures ∙ c.if-not-is_begun.false in
    let working = still_working c.take_work.new.session done.new.work c.take_work.ensures.working done.ensures.since in
    let same : c.in-Ok.due ≡ due_in world M m =
    c.in-Ok.ensures.ok
    ∙ (λ i. map due (filter (is_due (c.len-count.ensures i)) (events_of (flush world (c.take_work.ensures.work i))))) in
    subst (λ (reply : Reply). Serves world s (Call.Pending c.args.em) reply t) (sym c.accepted.ensures) (pending_told world s c.args.em t m c.in-Ok.due is begun same (c.restore.ensures.back M working))

pub returns-in-Ok-clause-rest : goal.returns-in-Ok-clause-rest
returns-in-Ok-clause-rest g c =
    let M = machine_of c.args.session.now in
    let u = c.args.unit.now.metamodel in
    let done = c.flushed_due-due in
    let working = still_working c.take_work.new.session done.new.work c.take_work.ensures.working done.ensures.since in
    record {
      settled = c.restore.ensures.settled M working;
      marked = c.restore.ensures.marked u M working (still_marked c.take_work.new.session done.new.work (c.take_work.ensures.marked u (c.requires.serving).marked) done.ensures.since);
    }

pub returns-in-Err-clause-rest : goal.returns-in-Err-clause-rest
returns-in-Err-clause-rest g c =
    let M = machine_of c.args.session.now in
    let u = c.args.unit.now.metamodel in
    let done = c.flushed_due-due in
    let working = still_working c.take_work.new.session done.new.work c.take_work.ensures.working done.ensures.since in
    record {
      settled = c.restore.ensures.settled M working;
      marked = c.restore.ensures.marked u M working (still_marked c.take_work.new.session done.new.work (c.take_work.ensures.marked u (c.requires.serving).marked) done.ensures.since);
    }
