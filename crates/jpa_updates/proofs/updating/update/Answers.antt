use Rattle.std.proofs.Common.{◌≡◌, sym, subst, true, length}
use Rattle.jpa_stored.specs.objects.Sets as sets
use Rattle.jpa_rows.specs.rows.Cells.{all_representable}
use Rattle.jpa_work.specs.context.Undo.{now}
use Rattle.jpa_updates.specs.Updates.{settle}
use Rattle.jpa_updates.proofs.Settled.{seen_then}
use Rattle.jpa_updates.proofs.Updated.{put_representable, if_done}
use Rattle.jpa_updates.proofs.updating.update.Goals as goal

pub returns-clause-representable : goal.returns-clause-representable
returns-clause-representable g c =
    let m = c.args.unit.now.metamodel in
    let w = now c.args.work.now in
    let v = now c.put_sound.new.work in
    let es = c.deref.result.now in
    let set = sets.put_all es w.view in
    let given = subst (λ (xs : sets.StoredSet). all_representable xs ≡ true) (sym c.deref.ensures.value) c.in_ok-objects.ensures.representable in
    if_done c.put_sound.result v (settle m (set, length es) w) (λ (s : sets.StoredSet). all_representable w.view ≡ true → all_representable s ≡ true) c.put_sound.ensures.meets
    (λ n h old. subst (λ (s : sets.StoredSet). all_representable s ≡ true) (sym (seen_then m set (length es) w n v h)) (put_representable es w.view given old))
