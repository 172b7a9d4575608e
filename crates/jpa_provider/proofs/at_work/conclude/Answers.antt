use Rattle.std.proofs.Common.{refl, sym, subst, ◌∙◌}
use Rattle.std.specs.Prelude.{OnErr, OnOk}
use Rattle.jpa_work.specs.declared.context.work.UnitOfWork.{UnitOfWork}
use Rattle.jpa_work.specs.context.Undo.{now}
use Rattle.jpa_operations.specs.fetch.Grown.{IsReady}
use Rattle.jpa_provider.specs.Serving.{IsAtRest, IsWorking}
use Rattle.jpa_provider.proofs.Marked.{ready_silent, still_marked}
use Rattle.jpa_provider.proofs.Worked.{still_away, still_working}
use Rattle.jpa_provider.proofs.at_work.conclude.Goals.{then-is_marked_by, else-is_marked_by}
use Rattle.jpa_provider.proofs.at_work.conclude.Goals as goal

pub keep_marked-requires-clause-ready : goal.keep_marked-requires-clause-ready
keep_marked-requires-clause-ready c =
    let w = now c.args.session.now.work in
    ready_silent c.args.metamodel.now w c.replace-events.new.dest (subst (λ r. OnOk r (IsReady c.args.metamodel.now w)) c.in-Ok.is c.requires.ready)

-- the events were taken out before
pub returns-in-Ok-clause-rest : goal.returns-in-Ok-clause-rest
returns-in-Ok-clause-rest c = λ M away working marked.
    let s = c.args.session.now in
    let w : UnitOfWork = record (s.work) { events = c.replace-events.new.dest } in
    let there = still_away s w away refl refl refl in
    record {
      settled = c.keep_marked.ensures.settled M there (c.replace-events.ensures.after ∙ c.new.ensures);
      marked = c.keep_marked.ensures.marked M there (still_marked s w marked refl);
    }

pub returns-after-is_marked_by-clause-rest : goal.returns-after-is_marked_by-clause-rest
returns-after-is_marked_by-clause-rest c = λ M away working marked.
    let s = c.args.session.now in
    let u = c.args.metamodel.now in
    let w : UnitOfWork = record (s.work) { events = c.replace-events.new.dest } in
    let there = still_working s w (subst (λ r. OnErr r (IsWorking M c.args.manager s)) c.in-Err.is working) refl in
    let settled = c.restore.ensures.settled M there in
    let back = c.restore.ensures.marked u M there (still_marked s w marked refl) in
    elim c.if-is_marked_by.branch [
      | then-is_marked_by v ↦ subst (IsAtRest u) (sym v.session-is) (record { settled = v.mark.ensures.rest.settled settled; marked = v.mark.ensures.rest.marked u back })
      | else-is_marked_by v ↦ subst (IsAtRest u) (sym v.session-is) (record { settled = settled; marked = back })
    ]
