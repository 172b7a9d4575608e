use Rattle.std.proofs.Common.{sym, subst}
use Rattle.std.specs.List.{All}
use Rattle.jpa_work.specs.context.Undo.{now}
use Rattle.jpa_flush.specs.flush.Marked.{AreMarked}
use Rattle.jpa_flush.specs.marking.Committed.{IsSeenAt}
use Rattle.jpa_flush.specs.marking.Shared.{ended}
use Rattle.jpa_flush.proofs.marking.Ending.{left_marked}
use Rattle.jpa_flush.proofs.marking.committed.mark_left.Goals as goal

pub returns-clause-marked : goal.returns-clause-marked
returns-clause-marked c =
    let m = c.args.metamodel.now in
    let w = now c.args.work.now in
    let k = c.mark_places.new.marks in
    let linked = c.are_linked_left-linked.result in
    let looked = c.args.looked.now in
    subst (AreMarked m (ended w)) (sym c.link.ensures)
    (left_marked m w looked.linked looked.places k c.requires.looked (subst (All (IsSeenAt m w k)) c.as_slice.ensures c.in_ok-mark_places.ensures.seen) linked c.are_linked_left-linked.ensures)
