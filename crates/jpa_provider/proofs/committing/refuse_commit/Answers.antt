use Rattle.std.proofs.Common.{◌<◌, List, length, inl, inr, refl, ap, sym, subst, ◌∙◌}
use Rattle.std.specs.Prelude.{All, Err}
use Rattle.jpa_work.specs.declared.heap.LiveObject.{LiveObject}
use Rattle.jpa_work.specs.declared.context.Entry.{Entry}
use Rattle.jpa_value.specs.declared.refusal.Refusal.{Refusal}
use Rattle.jpa_machine.specs.machine.Machine.{Machine, rolled_back}
use Rattle.jpa_machine.specs.machine.Invariant.{IsMachine}
use Rattle.jpa_provider.proofs.Committed.{begun_still}
use Rattle.jpa_provider.proofs.Marked.{still_marked}
use Rattle.jpa_provider.proofs.Worked.{still_working}
use Rattle.jpa_provider.proofs.committing.refuse_commit.Goals as goal

pub release-requires : goal.release-requires
release-requires c =
    let back = c.restore.ensures.undone in
    record {
      within = subst (λ n. c.args.manager < n) (sym back.count) c.requires.within;
      entries =
          subst (λ (p : List LiveObject × List Entry). All (λ (e : Entry). e.object < length p.0) p.1) (λ i. (sym back.objects i, sym back.context i)) c.requires.entries;
    }

pub returns-then-gave_up-clause-refuses : goal.returns-then-gave_up-clause-refuses
returns-then-gave_up-clause-refuses c = λ M h.
    let s = c.args.session.now in
    let working = still_working s (record s.work { events = c.replace-events.new.dest }) h.working refl in
    inl (sym c.gave_up.ensures ∙ c.if-gave_up.true, c.because.ensures, c.restore.ensures.back M working)

pub returns-then-gave_up-clause-settled : goal.returns-then-gave_up-clause-settled
returns-then-gave_up-clause-settled c = λ M h.
    let s = c.args.session.now in
    let working = still_working s (record s.work { events = c.replace-events.new.dest }) h.working refl in
    c.restore.ensures.settled M working

pub returns-clause-refuses : goal.returns-clause-refuses
returns-clause-refuses c = λ M h.
    let s = c.args.session.now in
    let m = c.args.manager in
    let working = still_working s (record s.work { events = c.replace-events.new.dest }) h.working refl in
    let back = c.restore.ensures.back M working in
    inr (
      sym c.gave_up.ensures ∙ c.if-gave_up.false,
      (λ i. record { events = c.replace-events.ensures.value i; answer = Err (Refusal.Rollback c.args.cause) }),
      c.release.ensures.released (c.restore.ensures.settled M working) (begun_still c.restore.new.session m back h.begun) ∙ ap (λ (N : Machine). rolled_back N m) back,
    )

pub returns-clause-settled : goal.returns-clause-settled
returns-clause-settled c = λ M h.
    let s = c.args.session.now in
    let working = still_working s (record s.work { events = c.replace-events.new.dest }) h.working refl in
    let back = c.restore.ensures.back M working in
    c.release.ensures.settled (c.restore.ensures.settled M working) (begun_still c.restore.new.session c.args.manager back h.begun)

pub returns-then-gave_up-clause-marked : goal.returns-then-gave_up-clause-marked
returns-then-gave_up-clause-marked c = λ world M machine h away.
    let s = c.args.session.now in
    let working = still_working s (record s.work { events = c.replace-events.new.dest }) h.working refl in
    c.restore.ensures.marked world.model M working (still_marked s (record s.work { events = c.replace-events.new.dest }) away refl)

-- restored, its contexts are those of the machine
pub returns-clause-marked : goal.returns-clause-marked
returns-clause-marked c = λ world M machine h away.
    let s = c.args.session.now in
    let working = still_working s (record s.work { events = c.replace-events.new.dest }) h.working refl in
    let all = c.restore.ensures.marked world.model M working (still_marked s (record s.work { events = c.replace-events.new.dest }) away refl) in
    c.release.ensures.marked world (subst (IsMachine world) (sym (c.restore.ensures.back M working)) machine) all
