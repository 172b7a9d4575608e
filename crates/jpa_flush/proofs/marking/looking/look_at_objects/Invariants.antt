use Rattle.std.proofs.Common.{◌≢◌, ℕ, get_or}
use Rattle.jpa_work.specs.declared.heap.LiveObject.{LiveObject}
use Rattle.jpa_work.specs.declared.context.Entry.{Entry}
use Rattle.jpa_work.specs.context.Undo.{now}
use Rattle.jpa_flush.specs.marking.Anew.{IsGoneOver}
use Rattle.jpa_flush.proofs.flush.Prefix.{Before}
use Rattle.jpa_flush.proofs.marking.looking.look_at_objects.Given as goal

-- what was missed so far is of none of the objects so far
abbrev pub invariant-loop-note : goal.invariant-loop-note
invariant-loop-note l =
    IsGoneOver l.metamodel (now l.work) (λ i. (d : Entry) → Before (λ (o : ℕ × LiveObject). o.0 ≢ (get_or l.work.context.now i d).object) l.note-index l.noted) l.fn.marks l.marks
