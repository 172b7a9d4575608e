use Rattle.std.specs.Option.{option_copied}
use Rattle.std.proofs.Common.{refl, ◌∙◌, sym, subst, Result, Ok, Err, OnOk}
use Rattle.jpa_behaviour.specs.Registered.{world_of}
use Rattle.jpa_stored.specs.objects.Sets.{stored_at}
use Rattle.jpa_object_rows.proofs.meaning.Bytes.Described.{described_mapped}
use Rattle.jpa_object_rows.proofs.meaning.Bytes.Rounds.{held_storable}
use Rattle.jpa_object_rows.specs.meaning.Sets.{rows_of}
use Rattle.jpa_object_rows.specs.store.Shown.{with_puts, with_drops, entries_at, Show, Recall}
use Rattle.jpa_object_rows.specs.store.Written.{with_or_without}
use Rattle.jpa_object_rows.proofs.store.Replaced.{replaced}
use Rattle.jpa_object_rows.proofs.store.StoodObjects.{object_recalled}
use Rattle.jpa_object_rows.proofs.store.objects.change_object.Goals as goal

then_so : {A E : Type 0} (r : Result A E) {P Q : Type 0} → OnOk r P → (P → Q) → OnOk r Q
then_so (Ok a) h f = f h
then_so (Err e) h f = tt

pub returns-clause-ok : goal.returns-clause-ok
returns-clause-ok g c =
    let m = c.args.metamodel.now in
    let world = world_of g.B.Behaviour.meaning m c.args.registry.now in
    let id = c.args.id.now in
    let new = option_copied c.args.object in
    then_so c.put_new.result c.put_new.ensures.ok (λ put base set numbers at s.
    subst (λ changes. Show world base changes (with_or_without id new set) numbers) (sym (put ∙ (λ i. with_puts (entries_at world id new) (c.in_ok-drop_old.ensures.ok i))))
    (replaced world (described_mapped m c.unit.ensures.described) (c.laws.ensures.regular m) c.discriminator_law.ensures base c.args.overlay.now set numbers s id new c.requires.storable
    (stored_at c.args.view.now.committed id) at))

pub returns-clause-noted : goal.returns-clause-noted
returns-clause-noted g c =
    let m = c.args.metamodel.now in
    let world = world_of g.B.Behaviour.meaning m c.args.registry.now in
    let committed = c.args.view.now.committed in
    let id = c.args.id.now in
    let new = option_copied c.args.object in
    let old = stored_at committed id in
    then_so c.put_new.result c.put_new.ensures.ok (λ put before held r.
    subst (λ changes. Recall (rows_of world committed before) c.drop_old.new.stood changes) (sym (put ∙ (λ i. with_puts (entries_at world id new) (c.in_ok-drop_old.ensures.ok i))))
    (subst (λ stood. Recall (rows_of world committed before) stood (with_puts (entries_at world id new) (with_drops (entries_at world id old) c.args.overlay.now))) (sym c.in_ok-drop_old.ensures.noted)
    (object_recalled world (described_mapped m c.unit.ensures.described) (c.laws.ensures.regular m) c.discriminator_law.ensures committed before held.rising (held_storable world committed before held) held.numbered
    id new c.requires.storable c.args.stood.now c.args.overlay.now r old refl)))
