use Rattle.std.proofs.Common.{◌≡◌, true, sym, subst}
use Rattle.jpa_work.specs.declared.context.Entry.{Entry}
use Rattle.jpa_work.specs.context.Undo.{now}
use Rattle.jpa_work.specs.context.Work.{is_managed, state_of}
use Rattle.jpa_flush.specs.flush.Marked.{AreLooked}
use Rattle.jpa_provider.proofs.committing.at_hand.Goals as goal

pub removed_of-requires-clause-looked : goal.removed_of-requires-clause-looked
removed_of-requires-clause-looked c =
    let w = now c.args.work.now in
    subst (AreLooked (λ (e : Entry). is_managed (state_of w e.object) ≡ true) w.context) (sym c.as_slice-2.ensures) c.requires.looked
