use Rattle.std.proofs.Common.{◌≡◌, sym, subst, true, length}
use Rattle.jpa_stored.specs.objects.Sets as sets
use Rattle.jpa_rows.specs.rows.Cells.{all_representable}
use Rattle.jpa_work.specs.context.Undo.{now}
use Rattle.jpa_updates.specs.Updates.{settle}
use Rattle.jpa_updates.proofs.Settled.{seen_then}
use Rattle.jpa_updates.proofs.Updated.{taken_representable, if_done}
use Rattle.jpa_updates.proofs.updating.delete.Goals as goal

pub returns-clause-representable : goal.returns-clause-representable
returns-clause-representable g c =
    let m = c.args.unit.now.metamodel in
    let w = now c.args.work.now in
    let v = now c.take_sound.new.work in
    let ids = c.as_slice.result.now in
    let set = sets.without ids w.view in
    if_done c.take_sound.result v (settle m (set, length ids) w) (λ (s : sets.StoredSet). all_representable w.view ≡ true → all_representable s ≡ true) c.take_sound.ensures.meets
    (λ n h old. subst (λ (s : sets.StoredSet). all_representable s ≡ true) (sym (seen_then m set (length ids) w n v h)) (taken_representable ids w.view old))
