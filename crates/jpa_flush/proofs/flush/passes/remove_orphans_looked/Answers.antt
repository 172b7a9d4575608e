use Rattle.std.proofs.Common.{◌≡◌, sym, subst, true}
use Rattle.jpa_work.specs.declared.context.Entry.{Entry}
use Rattle.jpa_work.specs.context.Undo.{now}
use Rattle.jpa_flush.specs.flush.Marked.{AreLooked, has_no_orphan}
use Rattle.jpa_flush.proofs.flush.Choosing.{unorphaned_looked}
use Rattle.jpa_flush.proofs.flush.passes.remove_orphans_looked.Goals as goal

pub remove_orphans_at-requires-clause-looked : goal.remove_orphans_at-requires-clause-looked
remove_orphans_at-requires-clause-looked g c =
    let m = c.args.unit.now.metamodel in
    let w = now c.args.work.now in
    let found = c.in_ok-found.found in
    subst (AreLooked (λ (e : Entry). has_no_orphan m w e.object ≡ true) w.context) (sym c.as_slice.ensures) (unorphaned_looked m w found.linked found.places c.requires.ready.distinct c.in_ok-found.ensures.ok)
