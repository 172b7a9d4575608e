use Rattle.std.proofs.Common.{◌≡◌, ◌∙◌, ap, sym, subst, T, length}
use Rattle.std.specs.FinMap.Entries.{is_sorted}
use Rattle.std.proofs.lemmas.Result.{err_from_is_err_and}
use Rattle.jpa_value.specs.Value.{identity_cmp}
use Rattle.jpa_stored.specs.objects.Sets as sets
use Rattle.jpa_work.specs.context.Undo.{now}
use Rattle.jpa_work.specs.context.Work.{Work}
use Rattle.jpa_constraints.specs.Changed.{IsChanged}
use Rattle.jpa_updates.specs.Changing.{ArePlaces}
use Rattle.jpa_updates.specs.Updates.{with_view}
use Rattle.jpa_updates.proofs.Settled.{take_changed, take_rises, taken_all, settle_done, settle_refused}
use Rattle.jpa_updates.proofs.settling.take_sound.Goals as goal

pub judge_changes-requires-clause-rising : goal.judge_changes-requires-clause-rising
judge_changes-requires-clause-rising c =
    let s = (now c.args.work.now).view in
    let same : (now c.take_all.new.work).view ≡ sets.without c.args.ids.now s = ap (λ (w : Work). w.view) c.in_ok-take_all.ensures.ok ∙ taken_all c.args.ids.now s in
    subst (λ (t : sets.StoredSet). T (is_sorted identity_cmp t)) (sym same) (take_rises s c.args.ids.now c.requires.rising)

pub judge_changes-requires-clause-changed : goal.judge_changes-requires-clause-changed
judge_changes-requires-clause-changed c =
    let m = c.args.metamodel.now in
    let s = (now c.args.work.now).view in
    let same : (now c.take_all.new.work).view ≡ sets.without c.args.ids.now s = ap (λ (w : Work). w.view) c.in_ok-take_all.ensures.ok ∙ taken_all c.args.ids.now s in
    let places = subst (ArePlaces s c.args.ids.now) (sym c.as_slice.ensures.value) c.in_ok-changes.ensures.ok in
    subst (IsChanged m c.as_slice.result.now) (sym same) (take_changed m s c.args.ids.now c.as_slice.result.now c.requires.rising c.requires.sound places)

pub returns-in_err-judge_changes-clause-meets : goal.returns-in_err-judge_changes-clause-meets
returns-in_err-judge_changes-clause-meets c =
    let w = now c.args.work.now in
    let ids = c.args.ids.now in
    let p = err_from_is_err_and c.from_residual-in_err-judge_changes.result c.from_residual-in_err-judge_changes.ensures.1 in
    let same = c.in_ok-take_all.ensures.ok ∙ ap (λ (s : sets.StoredSet). with_view s w) (taken_all ids w.view) in
    rw (p.1, p.2) (settle_refused c.args.metamodel.now (sets.without ids w.view) (length ids) w (now c.take_all.new.work) c.in_err-judge_changes.field-0.0 same c.in_err-judge_changes.ensures.meets)

pub returns-clause-meets : goal.returns-clause-meets
returns-clause-meets c =
    let w = now c.args.work.now in
    let ids = c.args.ids.now in
    let same = c.in_ok-take_all.ensures.ok ∙ ap (λ (s : sets.StoredSet). with_view s w) (taken_all ids w.view) in
    settle_done c.args.metamodel.now (sets.without ids w.view) (length ids) w (now c.take_all.new.work) same c.in_ok-judge_changes.ensures.meets
