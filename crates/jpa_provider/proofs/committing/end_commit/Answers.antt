use Rattle.std.proofs.Common.{◌≡◌, ◌<◌, List, true, length, refl, ap, sym, subst, ◌∙◌}
use Rattle.std.specs.Prelude.{slice_set, All}
use Rattle.std.specs.List.{filter}
use Rattle.jpa_open.specs.Opened.{Opened, no_layers, unwritten, with_kept}
use Rattle.jpa_work.specs.declared.context.Entry.{Entry}
use Rattle.jpa_work.specs.declared.context.Lock.{Lock}
use Rattle.jpa_work.specs.declared.context.work.UnitOfWork.{UnitOfWork}
use Rattle.jpa_work.specs.context.Marks.{Entries}
use Rattle.jpa_work.specs.context.Undo.{now}
use Rattle.jpa_work.specs.context.Work.{Work}
use Rattle.jpa_flush.specs.flush.Marked.{AreLooked, AreMarked}
use Rattle.jpa_flush.specs.marking.Shared as marking
use Rattle.jpa_machine.specs.machine.Machine.{is_gone}
use Rattle.jpa_provider.specs.declared.session.EntityManager.{EntityManager}
use Rattle.jpa_provider.specs.declared.session.Session.{Session}
use Rattle.jpa_provider.specs.declared.session.Status.{Status}
use Rattle.jpa_provider.specs.Serving.{manager_in, detached_all, gone_objects, IsResting}
use Rattle.jpa_provider.proofs.Commits.{committed_there, idle_there, counted_there, detached_entries, gone_within}
use Rattle.jpa_provider.proofs.Ended.{committed_marks, others_stay, same_work}
use Rattle.jpa_provider.proofs.Opened.{ended_twice}
use Rattle.jpa_provider.proofs.Walks.{looked_as, untouched_lock}
use Rattle.jpa_provider.proofs.committing.end_commit.Goals as goal

-- ---- marks alone have changed then

pub end_context-requires-clause-looked : goal.end_context-requires-clause-looked
end_context-requires-clause-looked c =
    let w = now c.args.session.now.work in
    subst (λ (v : UnitOfWork). AreLooked (λ (e : Entry). e.lock ≡ Lock.Unlocked) v.context.now c.as_slice.result.now) (sym c.mark_committed.ensures.others)
    (subst (AreLooked (λ (e : Entry). e.lock ≡ Lock.Unlocked) w.context) (sym c.as_slice.ensures)
    (looked_as (untouched_lock c.args.metamodel.now w c.args.looked.now.linked) c.requires.untouched))

pub end_context-requires-clause-gone : goal.end_context-requires-clause-gone
end_context-requires-clause-gone c = c.requires.removed ∙ ap (λ (v : UnitOfWork). gone_objects (now v)) (sym c.mark_committed.ensures.others)

pub detach_objects-requires : goal.detach_objects-requires
detach_objects-requires c =
    let u = c.args.session.now.work in
    let whole = same_work u c.mark_committed.new.work c.end_context.new.work c.mark_committed.ensures.others c.end_context.ensures.others in
    subst (λ (v : UnitOfWork). All (λ n. n < length v.objects.now) c.args.gone.now) (sym whole)
    (subst (λ ns. All (λ n. n < length u.objects.now) ns) (sym c.requires.removed) (gone_within (now u) (length u.objects.now) c.requires.entries))

pub commit-requires : goal.commit-requires
commit-requires c =
    let u = c.args.session.now.work in
    let whole = same_work u c.mark_committed.new.work c.end_context.new.work c.mark_committed.ensures.others c.end_context.ensures.others in
    subst (λ (v : UnitOfWork). (v.view).is_ready ≡ true) (sym whole) c.requires.room

-- ---- what is left

pub returns-clause-ended : goal.returns-clause-ended
returns-clause-ended c = λ M h.
    let s = c.args.session.now in
    let m = c.args.manager in
    let u = s.work in
    let xs : List EntityManager = s.managers.items in
    let context : Entries = c.keep.new.self.context in
    let x : EntityManager = record (manager_in xs m) { context = context } in
    let t : Session = record s { managers = c.end_transaction.new.managers; work = record c.keep.new.self { context = c.keep-2.new.self }; stored = c.args.next } in
    let end : List EntityManager → List EntityManager = λ ys. slice_set ys m (record (manager_in ys m) { status = Status.Inactive; layers = no_layers }) in
    let whole = same_work u c.mark_committed.new.work c.end_context.new.work c.mark_committed.ensures.others c.end_context.ensures.others in
    let same = c.keep.ensures.now in
    let stay = ap (λ (w : Work). w.context) same ∙ c.end_context.ensures.now ∙ ap (λ (v : UnitOfWork). (marking.ended (now v)).context) c.mark_committed.ensures.others in
    let gone =
    ap (λ (w : Work). w.objects) same ∙ c.detach_objects.ensures.now ∙ (λ i. detached_all (c.requires.removed i) ((whole i).objects.now)) ∙ detached_entries (filter (is_gone (now u)) u.context.now) u.objects.now in
    let view = ap (λ (v : Opened). v.committed) c.keep.ensures.view ∙ ap (λ (v : Opened). v.committed) c.commit.ensures ∙ ap (λ (v : UnitOfWork). (v.view).seen) whole in
    c.mark_unless.ensures.machine
    ∙ committed_there M s t m context h c.requires.beside (c.end_transaction.ensures ∙ ap end c.exchange.ensures.managers ∙ ended_twice xs m x c.requires.within) stay gone
    (ap (λ (w : Work). w.numbers) same ∙ ap (λ (v : UnitOfWork). v.numbers.now) whole) view c.requires.numbers

pub returns-clause-settled : goal.returns-clause-settled
returns-clause-settled c = λ M h quiet.
    let s = c.args.session.now in
    let m = c.args.manager in
    let u = s.work in
    let xs : List EntityManager = s.managers.items in
    let context : Entries = c.keep.new.self.context in
    let x : EntityManager = record (manager_in xs m) { context = context } in
    let t : Session = record s { managers = c.end_transaction.new.managers; work = record c.keep.new.self { context = c.keep-2.new.self }; stored = c.args.next } in
    let end : List EntityManager → List EntityManager = λ ys. slice_set ys m (record (manager_in ys m) { status = Status.Inactive; layers = no_layers }) in
    let whole = same_work u c.mark_committed.new.work c.end_context.new.work c.mark_committed.ensures.others c.end_context.ensures.others in
    let managers = c.end_transaction.ensures ∙ ap end c.exchange.ensures.managers ∙ ended_twice xs m x c.requires.within in
    let kept = c.keep.ensures.kept in
    let rests : c.keep.new.self.view ≡ unwritten (c.end_context.new.work.view).seen = c.keep.ensures.view ∙ ap (λ (v : Opened). with_kept v.seen v) c.commit.ensures in
    c.mark_unless.ensures.settled
    (record {
      kept = record { objects = kept.objects; context = c.keep-2.ensures.since ∙ sym c.keep-2.ensures.now; numbers = kept.numbers; view = kept.view };
      quiet = ap (λ (w : Work). w.events) c.keep.ensures.now ∙ ap (λ (v : UnitOfWork). v.events) whole ∙ quiet;
      resting = subst IsResting (sym rests) (record { begun = refl; kept = refl });
      idle = idle_there M s t m context h c.requires.beside managers;
      counted = counted_there M s t m context h c.requires.beside managers refl;
    })

pub returns-clause-marked : goal.returns-clause-marked
returns-clause-marked c = λ M h away.
    let s = c.args.session.now in
    let m = c.args.manager in
    let u = s.work in
    let w = c.mark_committed.new.work in
    let xs : List EntityManager = s.managers.items in
    let context : Entries = c.keep.new.self.context in
    let x : EntityManager = record (manager_in xs m) { context = context } in
    let t : Session = record s { managers = c.end_transaction.new.managers; work = record c.keep.new.self { context = c.keep-2.new.self }; stored = c.args.next } in
    let end : List EntityManager → List EntityManager = λ ys. slice_set ys m (record (manager_in ys m) { status = Status.Inactive; layers = no_layers }) in
    let whole = same_work u w c.end_context.new.work c.mark_committed.ensures.others c.end_context.ensures.others in
    let same = c.keep.ensures.now in
    let managers = c.end_transaction.ensures ∙ ap end c.exchange.ensures.managers ∙ ended_twice xs m x c.requires.within in
    let stay = ap (λ (v : Work). v.context) same ∙ c.end_context.ensures.now ∙ ap (λ (v : UnitOfWork). (marking.ended (now v)).context) c.mark_committed.ensures.others in
    let gone =
    ap (λ (v : Work). v.objects) same ∙ c.detach_objects.ensures.now ∙ (λ i. detached_all (c.requires.removed i) ((whole i).objects.now)) ∙ detached_entries (filter (is_gone (now u)) u.context.now) u.objects.now in
    let view = ap (λ (v : Opened). v.committed) c.keep.ensures.view ∙ ap (λ (v : Opened). v.committed) c.commit.ensures ∙ ap (λ (v : UnitOfWork). (v.view).seen) whole in
    let marks : context.marks ≡ w.context.marks = c.keep.ensures.marks ∙ c.end_context.ensures.marks in
    let anew : AreMarked c.args.metamodel.now (marking.ended (now u)) context.marks =
    subst (AreMarked c.args.metamodel.now (marking.ended (now u))) (sym marks)
    (subst (λ (v : UnitOfWork). AreMarked c.args.metamodel.now (marking.ended (now v)) w.context.marks) c.mark_committed.ensures.others c.mark_committed.ensures.marked) in
    c.mark_unless.ensures.marked c.args.metamodel.now (λ stays.
    committed_marks c.other_laws.ensures.own c.other_laws.ensures.let_go c.args.metamodel.now M s t m context c.requires.within away managers stay gone
    (committed_there M s t m context h c.requires.beside managers stay gone (ap (λ (v : Work). v.numbers) same ∙ ap (λ (v : UnitOfWork). v.numbers.now) whole) view c.requires.numbers) anew (others_stay w.context.marks w c.mark_committed.ensures.others away (c.keep_others-stay.ensures stays)))
