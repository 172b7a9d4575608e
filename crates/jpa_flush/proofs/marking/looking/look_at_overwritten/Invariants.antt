use Rattle.std.proofs.Common.{◌≢◌, ℕ}
use Rattle.jpa_work.specs.declared.context.Entry.{Entry}
use Rattle.jpa_work.specs.context.Undo.{now}
use Rattle.jpa_flush.specs.marking.Anew.{IsGoneOver}
use Rattle.jpa_flush.proofs.flush.Prefix.{Before}
use Rattle.jpa_flush.proofs.marking.looking.look_at_overwritten.Given as goal

-- what was missed so far is at none of the places so far
abbrev pub invariant-loop-note : goal.invariant-loop-note
invariant-loop-note l = IsGoneOver l.metamodel (now l.work) (λ i. Before (λ (o : ℕ × Entry). o.0 ≢ i) l.note-index l.noted) l.fn.marks l.marks
