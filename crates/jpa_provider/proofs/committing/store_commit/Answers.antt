use Rattle.std.proofs.Common.{◌≡◌, ◌⊎◌, inl, inr, refl, ap, sym, subst, ◌∙◌, rules}
use Rattle.std.specs.Prelude.{Ok}
use Rattle.jpa_behaviour.specs.Served.{world_of_unit}
use Rattle.jpa_object_rows.specs.meaning.Sets.{rows_of}
use Rattle.jpa_protocol.specs.declared.reply.Answer.{Answer}
use Rattle.jpa_protocol.specs.declared.reply.Reply.{Reply}
use Rattle.jpa_stored.specs.objects.Sets.{StoredSet}
use Rattle.jpa_value.specs.declared.refusal.Cause.{Cause}
use Rattle.jpa_work.specs.context.Undo.{now}
use Rattle.jpa_machine.specs.machine.Machine.{Machine, committed_after}
use Rattle.jpa_machine.specs.machine.Step.{gives_up}
use Rattle.jpa_provider.specs.declared.session.Session.{Session}
use Rattle.jpa_provider.specs.Provided.{rows_kept}
use Rattle.jpa_provider.proofs.Committed.{still_committing}
use Rattle.jpa_provider.proofs.Ended.{away_beside}
use Rattle.jpa_provider.proofs.Walks.{looked_as, ready_seen, untouched_managed, untouched_seen}
use Rattle.jpa_rows.proofs.rows.Commits.{none_tried}
use Rattle.jpa_provider.proofs.committing.store_commit.Goals as goal

pub returns-in-Err-clause-commits : goal.returns-in-Err-clause-commits
returns-in-Err-clause-commits g c = none_tried g.R.RowSource _ _ _ c.because.result.answer c.args.rows.now (search rules) (g.met.R.RowSource.still c.args.rows.now) (search rules)

pub returns-in-Err-clause-ends : goal.returns-in-Err-clause-ends
returns-in-Err-clause-ends g c = λ M h.
    let world = world_of_unit g.B.Behaviour.meaning c.args.unit.now in
    let back = c.restore.ensures.back M h.working in
    record {
      stores = inr (inl c.because.ensures, back);
      settled = c.restore.ensures.settled M h.working;
      marked = c.restore.ensures.marked c.args.unit.now.metamodel M h.working;
      holds = subst (λ (N : Machine). g.R.RowSource.holds c.args.rows.now (rows_kept world N)) (sym back);
    }

-- ---- what it looks at

pub make_room-room-requires-clause-changed : goal.make_room-room-requires-clause-changed
make_room-room-requires-clause-changed g c = record { elsewhere = c.requires.elsewhere; committed = c.requires.committed.rising; seen = c.requires.seen.rising }

pub at_hand-requires-clause-looked : goal.at_hand-requires-clause-looked
at_hand-requires-clause-looked g c =
    looked_as (untouched_managed c.args.unit.now.metamodel (now c.args.session.now.work) c.args.looked.now.linked) c.requires.untouched

pub end_commit-requires : goal.end_commit-requires
end_commit-requires g c =
    let u = c.args.unit.now.metamodel in
    let w = now c.args.session.now.work in
    let room = c.make_room-room in
    let events = c.replace-events.new.dest in
    record {
      within = search rules;
      numbers = search rules;
      removed = search rules;
      entries = search rules;
      room = (c.in_default.ensures.ok).ready;
      beside = (c.in_default.ensures.ok).beside;
      ready = ready_seen u w room.new.view.seen events room.ensures.still.seen c.requires.ready;
      untouched = looked_as (untouched_seen u w room.new.view.seen events c.args.looked.now.linked) c.requires.untouched;
    }

-- ---- there was no room

pub returns-in-Err-room-clause-commits : goal.returns-in-Err-room-clause-commits
returns-in-Err-room-clause-commits g c = none_tried g.R.RowSource _ _ _ c.because-in-Err-room.result.answer c.args.rows.now (search rules) (g.met.R.RowSource.still c.args.rows.now) (search rules)

pub returns-in-Err-room-clause-ends : goal.returns-in-Err-room-clause-ends
returns-in-Err-room-clause-ends g c = λ M h.
    let u = c.args.unit.now.metamodel in
    let s = c.args.session.now in
    let world = world_of_unit g.B.Behaviour.meaning c.args.unit.now in
    let room = c.make_room-room in
    let t : Session = record s { managers = room.new.managers; work = record s.work { view = room.new.view } } in
    let there = still_committing s t room.ensures.still.undone room.ensures.still.held refl refl refl refl refl h in
    let restore = c.restore-in-Err-room.ensures in
    let back = restore.back M there.working in
    record {
      stores = inr (inl (c.because-in-Err-room.ensures ∙ ap gives_up c.in-Err-room.ensures.err), back);
      settled = restore.settled M there.working;
      marked = λ away. restore.marked u M there.working (away_beside u M c.args.manager s t refl refl refl room.ensures.still.held away);
      holds = subst (λ (N : Machine). g.R.RowSource.holds c.args.rows.now (rows_kept world N)) (sym back);
    }

-- ---- the store refused

given_up : (r : Cause) (reply : Reply) → (r ≡ Cause.OutOfMemory) ⊎ (r ≡ Cause.StoreFault) → reply ≡ gives_up r → (reply ≡ gives_up Cause.OutOfMemory) ⊎ (reply ≡ gives_up Cause.StoreFault)
given_up r reply (inl x) e = inl (e ∙ ap gives_up x)
given_up r reply (inr x) e = inr (e ∙ ap gives_up x)

pub returns-in-Err-stored-clause-ends : goal.returns-in-Err-stored-clause-ends
returns-in-Err-stored-clause-ends g c = λ M h.
    let u = c.args.unit.now.metamodel in
    let s = c.args.session.now in
    let world = world_of_unit g.B.Behaviour.meaning c.args.unit.now in
    let room = c.make_room-room in
    let t : Session = record s { managers = room.new.managers; work = record s.work { view = room.new.view } } in
    let there = still_committing s t room.ensures.still.undone room.ensures.still.held refl refl refl refl refl h in
    let restore = c.restore-in-Err-stored.ensures in
    let back = restore.back M there.working in
    record {
      stores = inr (given_up c.in-Err-stored.cause c.because-in-Err-stored.result c.in-Err-stored.ensures.cause c.because-in-Err-stored.ensures, back);
      settled = restore.settled M there.working;
      marked = λ away. restore.marked u M there.working (away_beside u M c.args.manager s t refl refl refl room.ensures.still.held away);
      holds = λ held. subst (λ (N : Machine). g.R.RowSource.holds c.write-stored.new.source (rows_kept world N)) (sym back) (c.in-Err-stored.ensures.commits.makes.kept (rows_kept world M) held);
    }

-- ---- it was stored

pub returns-clause-ends : goal.returns-clause-ends
returns-clause-ends g c = λ M h.
    let u = c.args.unit.now.metamodel in
    let s = c.args.session.now in
    let world = world_of_unit g.B.Behaviour.meaning c.args.unit.now in
    let room = c.make_room-room in
    let t : Session = record s { managers = room.new.managers; work = record s.work { view = room.new.view; events = c.replace-events.new.dest } } in
    let there = still_committing s t room.ensures.still.undone room.ensures.still.held refl refl refl refl refl h in
    let end = c.end_commit.ensures in
    let away = (there.working).away in
    record {
      stores = inl (
        (λ i. record { events = c.replace-events.ensures.value i; answer = Ok Answer.Null }),
        end.ended M there ∙ ap (λ (V : StoredSet). committed_after M c.args.manager (record (now s.work) { view = V })) room.ensures.still.seen,
      );
      settled = end.settled M there (c.replace-events.ensures.after ∙ c.new.ensures);
      marked = λ marks. end.marked M there (away_beside u M c.args.manager s t refl refl refl room.ensures.still.held marks);
      holds = λ held.
          let had = subst (g.R.RowSource.holds c.args.rows.now) (λ i. rows_of world (sym away.committed i) ((sym away.stored ∙ sym c.as_slice-2.ensures) i)) held in
          let made = ap (rows_of world (room.new.view).seen) (c.as_slice-3.ensures ∙ c.in-Ok.ensures.next) ∙ sym (ap (rows_kept world) (end.ended M there)) in
          subst (g.R.RowSource.holds c.write-stored.new.source) made (c.in_default-stored.ensures.commits.makes.done had);
    }
