use Rattle.std.proofs.Common.{◌≡◌, ap, sym, subst, T, map}
use Rattle.std.specs.FinMap.Entries.{is_sorted}
use Rattle.jpa_value.specs.Value.{identity_cmp}
use Rattle.jpa_stored.specs.objects.Sets as sets
use Rattle.jpa_work.specs.context.Undo.{now}
use Rattle.jpa_work.specs.context.Work.{Work}
use Rattle.jpa_constraints.specs.Changed.{IsChanged}
use Rattle.jpa_updates.specs.Changing.{ArePlaces, name_of}
use Rattle.jpa_updates.proofs.Settled.{put_changed, put_rises}
use Rattle.jpa_updates.proofs.settling.put_sound.Goals as goal

pub judge_changes-requires-clause-rising : goal.judge_changes-requires-clause-rising
judge_changes-requires-clause-rising c =
    let s = (now c.args.work.now).view in
    let same : (now c.put_all.new.work).view ≡ sets.put_all c.args.objects.now s = ap (λ (w : Work). w.view) c.in_ok-put_all.ensures.ok in
    subst (λ (t : sets.StoredSet). T (is_sorted identity_cmp t)) (sym same) (put_rises s c.args.objects.now c.requires.rising)

pub judge_changes-requires-clause-changed : goal.judge_changes-requires-clause-changed
judge_changes-requires-clause-changed c =
    let m = c.args.metamodel.now in
    let s = (now c.args.work.now).view in
    let same : (now c.put_all.new.work).view ≡ sets.put_all c.args.objects.now s = ap (λ (w : Work). w.view) c.in_ok-put_all.ensures.ok in
    let places = subst (ArePlaces s (map name_of c.args.objects.now)) (sym c.as_slice.ensures.value) c.in_ok-changes.ensures.ok in
    subst (IsChanged m c.as_slice.result.now) (sym same) (put_changed m s c.args.objects.now c.as_slice.result.now c.requires.rising c.requires.sound places)
