use Rattle.std.proofs.Common.{◌≡◌, ℕ, true}
use Rattle.jpa_work.specs.declared.heap.LiveObject.{LiveObject}
use Rattle.jpa_work.specs.context.Undo.{now}
use Rattle.jpa_work.specs.context.Work.{object}
use Rattle.jpa_flush.specs.flush.Marked.{keeps_others}
use Rattle.jpa_flush.proofs.flush.Prefix.{Before}
use Rattle.jpa_flush.proofs.marking.others.keep_others.Given as goal

-- so it is of those so far
abbrev pub invariant-loop-note : goal.invariant-loop-note
invariant-loop-note l = Before (λ (o : ℕ × LiveObject). keeps_others l.work.manager o.1 (object (now l.work) o.0) ≡ true) l.note-index l.noted
