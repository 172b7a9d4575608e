use Rattle.std.proofs.Common.{◌≢◌, ℕ, ◌<◌, ◌≤◌}
use Rattle.jpa_work.specs.context.Undo.{now}
use Rattle.jpa_flush.specs.marking.Anew.{IsGoneOver}
use Rattle.jpa_flush.proofs.marking.looking.look_at_entered.Given as goal

-- what was missed so far is at none of the places so far
abbrev pub invariant-loop-place : goal.invariant-loop-place
invariant-loop-place l = IsGoneOver l.metamodel (now l.work) (λ i. (p : ℕ) → l.kept ≤ p → p < l.place → p ≢ i) l.fn.marks l.marks
