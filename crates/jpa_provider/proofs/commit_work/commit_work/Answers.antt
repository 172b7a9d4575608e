use Rattle.std.proofs.Common.{◌≡◌, true, ap, sym, subst, rules}
use Rattle.std.proofs.lemmas.Result.{err_from_is_err_and}
use Rattle.jpa_value.specs.declared.refusal.Cause.{Cause}
use Rattle.jpa_behaviour.specs.Served.{world_of_unit}
use Rattle.jpa_stored.specs.objects.Sets.{IsSound}
use Rattle.jpa_provider.specs.Beside.{Rises}
use Rattle.jpa_work.specs.context.Steps.{Outcome, Done, Refused, IsRefusedAs}
use Rattle.jpa_work.specs.declared.context.Entry.{Entry}
use Rattle.jpa_work.specs.declared.context.work.UnitOfWork.{UnitOfWork}
use Rattle.jpa_work.specs.context.Undo.{now, undone, Since}
use Rattle.jpa_flush.specs.flush.Flush.{flush}
use Rattle.jpa_flush.specs.flush.Marked.{AreLooked, AreMarked, IsUntouched, is_calm}
use Rattle.jpa_flush.proofs.flush.Rounds.{refused_after}
use Rattle.jpa_machine.specs.machine.Transactions.{commit_work}
use Rattle.jpa_provider.proofs.Current.{deciding, joined, not_current}
use Rattle.jpa_provider.proofs.Walks.{looked_as, untouched_seen}
use Rattle.jpa_provider.proofs.commit_work.commit_work.Goals as goal

pub returns-in_err-flush-clause-meets : goal.returns-in_err-flush-clause-meets
returns-in_err-flush-clause-meets g c =
    let world = world_of_unit g.B.Behaviour.meaning c.args.unit.now in
    let v = c.args.work.now.view in
    let p = err_from_is_err_and c.from_residual.result c.from_residual.ensures.1 in
    rw (p.1, p.2) (refused_after c.in_err-flush.field-0.0 (now c.flush.new.work).events (flush world (now c.args.work.now)) (λ _. deciding world v.committed v.begun) c.in_err-flush.ensures.meets)

-- what was flushed is ready for what comes next, and rises
pub is_current-requires-clause-ready : goal.is_current-requires-clause-ready
is_current-requires-clause-ready g c = (c.requires.goes (now c.flush.new.work) c.in_ok-flush.ensures.meets).ready

-- nothing changes what undoing gives, nor marks
pub looked-requires-clause-marked : goal.looked-requires-clause-marked
looked-requires-clause-marked g c = subst (λ (x : Since). AreMarked c.args.unit.now.metamodel (undone x.manager x) x.marks) (sym c.flush.ensures.since) c.requires.flush.marked.before

pub looked-requires-clause-ready : goal.looked-requires-clause-ready
looked-requires-clause-ready g c = (c.requires.goes (now c.flush.new.work) c.in_ok-flush.ensures.meets).ready

pub is_current-requires-clause-looked : goal.is_current-requires-clause-looked
is_current-requires-clause-looked g c =
    let w = now c.flush.new.work in
    subst (AreLooked (λ (e : Entry). is_calm c.args.unit.now.metamodel w e ≡ true) w.context) (sym c.as_slice-places.ensures)
    (c.calm_laws.ensures.looked c.args.unit.now.metamodel w c.in_ok-looked.looked.linked w.context c.in_ok-looked.looked.places c.in_ok-looked.ensures.ok)

pub returns-clause-found : goal.returns-clause-found
returns-clause-found g c =
    let m = c.args.unit.now.metamodel in
    let w = now c.flush.new.work in
    let found = c.in_ok-looked.looked in
    record {
      elsewhere = search rules;
      once = search rules;
      looked =
          subst (λ (v : UnitOfWork). AreLooked (IsUntouched m (now v) found.linked) v.context.now found.places) (sym c.merge.ensures.others)
          (looked_as (untouched_seen m w (c.merge.new.work.view).seen w.events found.linked) c.in_ok-looked.ensures.ok);
    }

pub returns-then-not-branch-clause-meets : goal.returns-then-not-branch-clause-meets
returns-then-not-branch-clause-meets g c =
    let world = world_of_unit g.B.Behaviour.meaning c.args.unit.now in
    let w = now c.args.work.now in
    let u = c.flush.new.work in
    subst (λ (x : Since). commit_work world x.committed x.begun w ≡ Refused Cause.OptimisticLock (now u).events) c.flush.ensures.since
    (not_current world u.view.committed u.view.begun w (now u) c.in_ok-flush.ensures.meets c.in_ok-is_current.field-0 c.in_ok-is_current.ensures.ok c.if-not-branch.true)

pub merge-requires : goal.merge-requires
merge-requires g c =
    let committed = ap (λ (x : Since). x.committed) c.flush.ensures.since in
    record {
      changed = search rules;
      rising = (c.requires.goes (now c.flush.new.work) c.in_ok-flush.ensures.meets).rising;
      committed = subst (IsSound c.args.unit.now.metamodel) (sym committed) c.requires.committed;
      committed_rising = subst Rises (sym committed) c.requires.committed_rising;
    }

pub returns-in_err-merge-clause-meets : goal.returns-in_err-merge-clause-meets
returns-in_err-merge-clause-meets g c =
    let world = world_of_unit g.B.Behaviour.meaning c.args.unit.now in
    let w = now c.args.work.now in
    let u = c.flush.new.work in
    let r = c.in_err-merge.field-0.0 in
    let events = (now c.merge.new.work).events in
    let p = err_from_is_err_and c.from_residual-in_err-merge.result c.from_residual-in_err-merge.ensures.1 in
    rw (p.1, p.2)
    (subst (λ (x : Since). IsRefusedAs r events (commit_work world x.committed x.begun w)) c.flush.ensures.since
    (subst (IsRefusedAs r events) (sym (joined world u.view.committed u.view.begun w (now u) c.in_ok-flush.ensures.meets c.in_ok-is_current.field-0 c.in_ok-is_current.ensures.ok c.if-not-branch.false)) c.in_err-merge.ensures.meets))

pub returns-clause-meets : goal.returns-clause-meets
returns-clause-meets g c =
    let world = world_of_unit g.B.Behaviour.meaning c.args.unit.now in
    let w = now c.args.work.now in
    let u = c.flush.new.work in
    subst (λ (x : Since). commit_work world x.committed x.begun w ≡ Done tt (now c.merge.new.work)) c.flush.ensures.since
    (subst (λ (o : Outcome (Unit {0})). o ≡ Done tt (now c.merge.new.work))
    (sym (joined world u.view.committed u.view.begun w (now u) c.in_ok-flush.ensures.meets c.in_ok-is_current.field-0 c.in_ok-is_current.ensures.ok c.if-not-branch.false)) c.in_ok-merge.ensures.meets)
