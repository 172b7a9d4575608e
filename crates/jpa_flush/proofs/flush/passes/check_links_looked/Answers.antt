use Rattle.std.proofs.Common.{◌≡◌, sym, subst, true}
use Rattle.jpa_work.specs.declared.context.Entry.{Entry}
use Rattle.jpa_work.specs.context.Undo.{now}
use Rattle.jpa_flush.specs.flush.Flush.{links_stored}
use Rattle.jpa_flush.specs.flush.Marked.{AreLooked}
use Rattle.jpa_flush.proofs.flush.Choosing.{stored_looked}
use Rattle.jpa_flush.proofs.flush.passes.check_links_looked.Goals as goal

pub check_links_at-requires-clause-looked : goal.check_links_at-requires-clause-looked
check_links_at-requires-clause-looked c =
    let m = c.args.metamodel.now in
    let w = now c.args.work.now in
    let found = c.args.found.now in
    subst (AreLooked (λ (e : Entry). links_stored m w e ≡ true) w.context) (sym c.as_slice.ensures) (stored_looked m w found.linked w.context found.places c.requires.looked c.if-found.true)
