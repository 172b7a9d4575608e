use Rattle.jpa_work.specs.context.Undo.{now}
use Rattle.jpa_flush.specs.marking.Committed.{AreCalledFor, IsSeenAt}
use Rattle.jpa_flush.proofs.flush.Prefix.{Before}
use Rattle.jpa_flush.proofs.marking.committed.mark_places.Given as goal

abbrev pub invariant-loop-place : goal.invariant-loop-place
invariant-loop-place l = record {
  seen : Before (IsSeenAt l.metamodel (now l.work) l.marks) l.place-index l.places;
  called : AreCalledFor l.metamodel (now l.work) l.fn.marks → AreCalledFor l.metamodel (now l.work) l.marks;
}
