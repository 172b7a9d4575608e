use Rattle.std.proofs.Common.{◌≡◌, sym, subst, true}
use Rattle.jpa_work.specs.declared.context.Entry.{Entry}
use Rattle.jpa_work.specs.context.Undo.{now}
use Rattle.jpa_flush.specs.flush.Marked.{AreLooked, is_linked_if_managed}
use Rattle.jpa_flush.proofs.flush.Choosing.{linked_looked}
use Rattle.jpa_flush.proofs.flush.passes.persist_looked.Goals as goal

pub looked-requires-clause-marked : goal.looked-requires-clause-marked
looked-requires-clause-marked g c = c.requires.marked.before

pub persist_from_looked-requires-clause-looked : goal.persist_from_looked-requires-clause-looked
persist_from_looked-requires-clause-looked g c =
    let m = c.args.unit.now.metamodel in
    let w = now c.args.work.now in
    let found = c.in_ok-found.found in
    subst (AreLooked (λ (e : Entry). is_linked_if_managed m w e.object ≡ true) w.context) (sym c.as_slice.ensures) (linked_looked m w found.linked w.context found.places c.in_ok-found.ensures.ok c.if-found.true)
