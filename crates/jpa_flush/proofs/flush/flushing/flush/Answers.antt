use Rattle.std.proofs.Common.{◌≡◌, ◌∙◌, true, ap, sym, subst, T}
use Rattle.std.specs.FinMap.Entries.{is_sorted}
use Rattle.std.proofs.lemmas.Result.{err_from_is_err_and}
use Rattle.jpa_value.specs.Value.{identity_cmp}
use Rattle.jpa_behaviour.specs.Served.{world_of_unit}
use Rattle.jpa_work.specs.declared.context.Entry.{Entry}
use Rattle.jpa_work.specs.context.Steps.{IsRefusedAs, Meets}
use Rattle.jpa_work.specs.context.Undo.{now}
use Rattle.jpa_open.specs.Opened as opened
use Rattle.jpa_stored.specs.objects.Sets.{StoredSet, IsSound}
use Rattle.jpa_flush.specs.flush.Flush.{check_links, persist_reachable, pre_update, remove_orphans}
use Rattle.jpa_flush.specs.flush.Marked.{AreLooked, is_calm}
use Rattle.jpa_flush.specs.flush.Plan.{writing}
use Rattle.jpa_flush.proofs.flush.Choosing.{marked_still}
use Rattle.jpa_flush.proofs.flush.Locked.{untouched_calm}
use Rattle.jpa_flush.proofs.flush.Flushed.{updating, linking, orphaning, reached, orphaned, linked, updated}
use Rattle.jpa_flush.proofs.flush.Names.{updated_distinct}
use Rattle.jpa_flush.proofs.flush.Rounds.{refused_after}
use Rattle.jpa_flush.proofs.flush.Updated.{by_updates, updated_ready}
use Rattle.jpa_flush.proofs.flush.flushing.flush.Goals as goal

pub returns-in_err-persist_looked-clause-meets : goal.returns-in_err-persist_looked-clause-meets
returns-in_err-persist_looked-clause-meets g c =
    let world = world_of_unit g.B.Behaviour.meaning c.args.unit.now in
    let p = err_from_is_err_and c.from_residual.result c.from_residual.ensures.1 in
    rw (p.1, p.2) (refused_after c.in_err-persist_looked.field-0.0 (now c.persist_looked.new.work).events (persist_reachable world (now c.args.work.now)) (λ _. orphaning world) c.in_err-persist_looked.ensures.carries.meets)

pub returns-in_err-remove_orphans_looked-clause-meets : goal.returns-in_err-remove_orphans_looked-clause-meets
returns-in_err-remove_orphans_looked-clause-meets g c =
    let world = world_of_unit g.B.Behaviour.meaning c.args.unit.now in
    let w = now c.persist_looked.new.work in
    let x = now c.remove_orphans_looked.new.work in
    let r = c.in_err-remove_orphans_looked.field-0.0 in
    let p = err_from_is_err_and c.from_residual-in_err-remove_orphans_looked.result c.from_residual-in_err-remove_orphans_looked.ensures.1 in
    rw (p.1, p.2)
    (subst (IsRefusedAs r x.events) (sym (reached world (now c.args.work.now) w c.in_ok-persist_looked.ensures.carries.meets))
    (refused_after r x.events (remove_orphans world w) (λ _. linking world) c.in_err-remove_orphans_looked.ensures.carries.meets))

pub returns-in_err-check_links_looked-clause-meets : goal.returns-in_err-check_links_looked-clause-meets
returns-in_err-check_links_looked-clause-meets g c =
    let world = world_of_unit g.B.Behaviour.meaning c.args.unit.now in
    let w = now c.persist_looked.new.work in
    let x = now c.remove_orphans_looked.new.work in
    let r = c.in_err-check_links_looked.field-0.0 in
    let p = err_from_is_err_and c.from_residual-in_err-check_links_looked.result c.from_residual-in_err-check_links_looked.ensures.1 in
    rw (p.1, p.2)
    (subst (IsRefusedAs r x.events) (sym (orphaned world (now c.args.work.now) w x c.in_ok-persist_looked.ensures.carries.meets c.in_ok-remove_orphans_looked.ensures.carries.meets))
    (refused_after r x.events (check_links world x) (λ _. updating world) (c.in_err-check_links_looked.ensures.meets world)))

pub returns-in_err-tell_updates_at-clause-meets : goal.returns-in_err-tell_updates_at-clause-meets
returns-in_err-tell_updates_at-clause-meets g c =
    let world = world_of_unit g.B.Behaviour.meaning c.args.unit.now in
    let w = now c.persist_looked.new.work in
    let x = now c.remove_orphans_looked.new.work in
    let v = now c.tell_updates_at.new.work in
    let r = c.in_err-tell_updates_at.field-0.0 in
    let p = err_from_is_err_and c.from_residual-in_err-tell_updates_at.result c.from_residual-in_err-tell_updates_at.ensures.1 in
    rw (p.1, p.2)
    (subst (IsRefusedAs r v.events)
    (sym (linked world (now c.args.work.now) w x c.in_ok-persist_looked.ensures.carries.meets c.in_ok-remove_orphans_looked.ensures.carries.meets (c.in_ok-check_links_looked.ensures.meets world)))
    (refused_after r v.events (pre_update world x) (λ _. writing world) c.in_err-tell_updates_at.ensures.meets))

pub remove_orphans_looked-requires-clause-marked : goal.remove_orphans_looked-requires-clause-marked
remove_orphans_looked-requires-clause-marked g c = marked_still c.args.unit.now.metamodel c.args.work.now c.persist_looked.new.work c.persist_looked.ensures.carries.since c.requires.marked.before

pub looked-requires-clause-marked : goal.looked-requires-clause-marked
looked-requires-clause-marked g c =
    marked_still c.args.unit.now.metamodel c.args.work.now c.remove_orphans_looked.new.work (c.remove_orphans_looked.ensures.carries.since ∙ c.persist_looked.ensures.carries.since) c.requires.marked.before

pub tell_updates_at-requires-clause-looked : goal.tell_updates_at-requires-clause-looked
tell_updates_at-requires-clause-looked g c =
    let m = c.args.unit.now.metamodel in
    let x = now c.remove_orphans_looked.new.work in
    let found = c.in_ok-found.found in
    subst (AreLooked (λ (e : Entry). is_calm m x e ≡ true) x.context) (sym c.as_slice-places.ensures) (untouched_calm m x found.linked x.context found.places c.in_ok-found.ensures.ok)

-- PreUpdate gave objects other values at most
pub write_changes-requires : goal.write_changes-requires
write_changes-requires g c =
    let m = c.args.unit.now.metamodel in
    let world = world_of_unit g.B.Behaviour.meaning c.args.unit.now in
    let x = now c.remove_orphans_looked.new.work in
    let v = now c.tell_updates_at.new.work in
    let u = by_updates world x v c.in_ok-tell_updates_at.ensures.meets in
    let set : v.view ≡ (now c.args.work.now).view = u.view ∙ ap opened.now (c.remove_orphans_looked.ensures.carries.view ∙ c.persist_looked.ensures.carries.view) in
    record {
      looked = c.in_ok-tell_updates_at.ensures.still;
      writable =
          record {
            ready = updated_ready m x v u c.in_ok-remove_orphans_looked.ensures.ready;
            sound = subst (IsSound m) (sym set) c.requires.sound;
            rising = subst (λ (s : StoredSet). T (is_sorted identity_cmp s)) (sym set) c.requires.rising;
            distinct = updated_distinct m x v u (c.in_ok-remove_orphans_looked.ensures.named (c.in_ok-persist_looked.ensures.named c.requires.distinct));
          };
    }

pub returns-clause-meets : goal.returns-clause-meets
returns-clause-meets g c =
    let world = world_of_unit g.B.Behaviour.meaning c.args.unit.now in
    let w = now c.persist_looked.new.work in
    let x = now c.remove_orphans_looked.new.work in
    let v = now c.tell_updates_at.new.work in
    subst (Meets c.write_changes.result (now c.write_changes.new.work))
    (sym (updated world (now c.args.work.now) w x v c.in_ok-persist_looked.ensures.carries.meets c.in_ok-remove_orphans_looked.ensures.carries.meets (c.in_ok-check_links_looked.ensures.meets world) c.in_ok-tell_updates_at.ensures.meets)) c.write_changes.ensures.meets
