use Rattle.std.proofs.Common.{◌≡◌, Bool, true, ap, sym, subst, ◌∙◌}
use Rattle.std.specs.Prelude.{OnOk, Some}
use Rattle.std.proofs.Math.Facts.{to_z-of_z}
use Rattle.std.proofs.lemmas.Bool.{false≢true}
use Rattle.jpa_behaviour.specs.Served.{world_of_unit}
use Rattle.jpa_work.specs.context.Work.{Work}
use Rattle.jpa_work.specs.context.Steps.{Done, Meets}
use Rattle.jpa_work.specs.context.Undo.{now}
use Rattle.jpa_protocol.specs.declared.call.FlushMode.{FlushMode}
use Rattle.jpa_flush.specs.flush.Flush.{flush_if}
use Rattle.jpa_updates.specs.Updates.{StaysSound}
use Rattle.jpa_rows.specs.rows.Cells.{all_representable}
use Rattle.jpa_machine.specs.machine.Going.{HoldsAfter}
use Rattle.jpa_protocol.specs.declared.reply.Answer.{Answer}
use Rattle.jpa_provider.specs.declared.replies.Rule.{Rule}
use Rattle.jpa_machine.specs.machine.Machine.{flushes_in, flushes_first, has_transaction, manager_at, work_of}
use Rattle.jpa_machine.specs.machine.Updating.{update_outcome}
use Rattle.jpa_machine.specs.machine.Querying.{update_call}
use Rattle.jpa_provider.specs.Serving.{machine_of, is_begun_status, named}
use Rattle.jpa_provider.proofs.Active.{can_flush, update_sound, update_representable}
use Rattle.jpa_provider.proofs.Routed.{update_so}
use Rattle.jpa_machine.proofs.machine.Updated.{made_so, ok_weaker}
use Rattle.jpa_provider.proofs.Sessions.{begun_there, manager_there}
use Rattle.jpa_provider.proofs.Marked.{ready_if, still_marked}
use Rattle.jpa_provider.proofs.Operates.{updates}
use Rattle.jpa_provider.proofs.Told.{no_fault}
use Rattle.jpa_provider.proofs.Worked.{still_working, if_refused, ends_so, named_same, told_ok}
use Rattle.jpa_provider.proofs.querying.update_call.Goals as goal

-- where the objects are flushed a transaction is open
begun_then : (begun : Bool) (mode : FlushMode) → flushes_in begun mode ≡ true → begun ≡ true
begun_then begun FlushMode.Auto h = h
begun_then begun FlushMode.Commit h = absurd (false≢true h)

pub update_work-answered-requires-clause-can_flush : goal.update_work-answered-requires-clause-can_flush
update_work-answered-requires-clause-can_flush g c =
    let world = world_of_unit g.B.Behaviour.meaning c.args.unit.now in
    let serving = c.requires.serving in
    can_flush world c.args.session.now c.take_work.new.session c.in-Some.manager serving c.take_work.ensures.work (c.take_work.ensures.marked world.model serving.marked)

pub update_work-answered-requires-clause-flushing : goal.update_work-answered-requires-clause-flushing
update_work-answered-requires-clause-flushing g c = λ flushes.
    c.is_begun.ensures ∙ begun_then (is_begun_status c.status_of-status.result) c.mode_of.result (sym c.flushes_first-flushes.ensures ∙ flushes)

pub update_work-answered-requires-clause-then_sound : goal.update_work-answered-requires-clause-then_sound
update_work-answered-requires-clause-then_sound g c =
    let world = world_of_unit g.B.Behaviour.meaning c.args.unit.now in
    subst (StaysSound c.flushes_first-flushes.result world) (sym c.take_work.ensures.work) (update_sound world c.args.session.now c.in-Some.manager c.requires.serving c.flushes_first-flushes.result)

pub conclude-requires-clause-ready : goal.conclude-requires-clause-ready
conclude-requires-clause-ready g c =
    let s = c.args.session.now in
    let M = machine_of s in
    let m = c.in-Some.manager in
    let world = world_of_unit g.B.Behaviour.meaning c.args.unit.now in
    let done = c.update_work-answered in
    let serving = c.requires.serving in
    let text = c.args.text in
    let ps = c.args.parameters in
    let active = c.is_begun.result in
    let first = c.flushes_first-flushes.result in
    let w : Work = work_of M m in
    let new : Work = now done.new.work in
    let met = subst (λ (v : Work). Meets done.result new (update_call text ps active first world v)) c.take_work.ensures.work done.ensures.meets in
    let made = made_so world text ps active first w new done.result met
    (subst (λ (u : Work). OnOk done.result ((v : Work) → flush_if first world u ≡ Done tt v → all_representable v.view ≡ true → all_representable new.view ≡ true)) c.take_work.ensures.work done.ensures.representable)
    (update_representable world s m serving first) in
    ready_if world M m done.result new (update_call text ps active first world w) met (ok_weaker done.result (updates world M m serving.orderly serving.regular serving.machine serving.inherited text ps active first) made)

pub conclude-requires-clause-before : goal.conclude-requires-clause-before
conclude-requires-clause-before g c =
    let done = c.update_work-answered in
    (still_marked c.take_work.new.session done.new.work (c.take_work.ensures.marked c.args.unit.now.metamodel (c.requires.serving).marked) done.ensures.since).own

pub returns-clause-step : goal.returns-clause-step
returns-clause-step g c =
    let s = c.args.session.now in
    let M = machine_of s in
    let m = c.in-Some.manager in
    let world = world_of_unit g.B.Behaviour.meaning c.args.unit.now in
    let done = c.update_work-answered in
    let op = update_call c.args.text c.args.parameters in
    let is : named s c.args.em ≡ Some m = ap (named s) (sym (to_z-of_z c.ranges.em)) ∙ sym c.in-Some.ensures.named in
    let at = manager_there s m in
    let active : c.is_begun.result ≡ has_transaction (manager_at M m) = c.is_begun.ensures ∙ ap is_begun_status c.status_of-status.ensures ∙ sym (begun_there s m) in
    let flushes : c.flushes_first-flushes.result ≡ flushes_first M m =
    c.flushes_first-flushes.ensures ∙ (λ i. flushes_in (is_begun_status (c.status_of-status.ensures i)) (c.mode_of.ensures i))
    ∙ (λ i. flushes_in (sym (begun_there s m) i) (sym at i).mode) in
    let working = still_working c.take_work.new.session done.new.work c.take_work.ensures.working done.ensures.since in
    let met = subst (λ (p : Bool × Bool). Meets done.result (now done.new.work) (op p.0 p.1 world (work_of M m))) (λ i. (active i, flushes i))
    (subst (λ (w : Work). Meets done.result (now done.new.work) (op c.is_begun.result c.flushes_first-flushes.result world w)) c.take_work.ensures.work done.ensures.meets) in
    update_so world s c.args.em c.args.text c.args.parameters c.conclude.new.session m c.conclude.result is
    (ends_so Rule.OfManager M (machine_of c.conclude.new.session) m (update_outcome world M c.args.text c.args.parameters m) done.result (now done.new.work) c.conclude.result met
    (c.conclude.ensures.concludes M working.away (if_refused done.result working)))

pub returns-clause-made : goal.returns-clause-made
returns-clause-made g c =
    let s = c.args.session.now in
    let M = machine_of s in
    let m = c.in-Some.manager in
    let world = world_of_unit g.B.Behaviour.meaning c.args.unit.now in
    let done = c.update_work-answered in
    let text = c.args.text in
    let ps = c.args.parameters in
    let w : Work = work_of M m in
    let new : Work = now done.new.work in
    let is : named s c.args.em ≡ Some m = ap (named s) (sym (to_z-of_z c.ranges.em)) ∙ sym c.in-Some.ensures.named in
    let at = manager_there s m in
    let active : c.is_begun.result ≡ has_transaction (manager_at M m) = c.is_begun.ensures ∙ ap is_begun_status c.status_of-status.ensures ∙ sym (begun_there s m) in
    let flushes : c.flushes_first-flushes.result ≡ flushes_first M m =
    c.flushes_first-flushes.ensures ∙ (λ i. flushes_in (is_begun_status (c.status_of-status.ensures i)) (c.mode_of.ensures i))
    ∙ (λ i. flushes_in (sym (begun_there s m) i) (sym at i).mode) in
    let working = still_working c.take_work.new.session done.new.work c.take_work.ensures.working done.ensures.since in
    let made = made_so world text ps c.is_begun.result c.flushes_first-flushes.result w new done.result
    (subst (λ (v : Work). Meets done.result new (update_call text ps c.is_begun.result c.flushes_first-flushes.result world v)) c.take_work.ensures.work done.ensures.meets)
    (subst (λ (u : Work). OnOk done.result ((v : Work) → flush_if c.flushes_first-flushes.result world u ≡ Done tt v → all_representable v.view ≡ true → all_representable new.view ≡ true)) c.take_work.ensures.work done.ensures.representable)
    (update_representable world s m c.requires.serving c.flushes_first-flushes.result) in
    told_ok _ Rule.OfManager M (machine_of c.conclude.new.session) m new done.result c.conclude.result (c.conclude.ensures.concludes M working.away (if_refused done.result working))
    (ok_weaker done.result (λ h. λ k place.
    subst (λ j. HoldsAfter (λ (a : Answer) v. all_representable v.view ≡ true) (update_outcome world M text ps j)) (named_same s c.args.em m k is place)
    (subst (λ (p : Bool × Bool). HoldsAfter (λ (a : Answer) v. all_representable v.view ≡ true) (update_call text ps p.0 p.1 world w)) (λ i. (active i, flushes i)) h)) made)

pub returns-clause-rest : goal.returns-clause-rest
returns-clause-rest g c =
    let done = c.update_work-answered in
    let working = still_working c.take_work.new.session done.new.work c.take_work.ensures.working done.ensures.since in
    c.conclude.ensures.rest (machine_of c.args.session.now) working.away (if_refused done.result working)
    (still_marked c.take_work.new.session done.new.work (c.take_work.ensures.marked c.args.unit.now.metamodel (c.requires.serving).marked) done.ensures.since)

pub returns-clause-untold : goal.returns-clause-untold
returns-clause-untold g c =
    let world = world_of_unit g.B.Behaviour.meaning c.args.unit.now in
    let done = c.update_work-answered in
    c.conclude.ensures.untold (no_fault done.result (now done.new.work) (update_call c.args.text c.args.parameters c.is_begun.result c.flushes_first-flushes.result world (now c.take_work.new.session.work)) done.ensures.meets)
