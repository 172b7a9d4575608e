use Rattle.std.proofs.Common.{◌≡◌}
use Rattle.jpa_work.specs.context.Work.{unlocked}
use Rattle.jpa_flush.specs.flush.Marked.{from}
use Rattle.jpa_flush.proofs.flush.Settled.{partly}
use Rattle.jpa_provider.proofs.committing.end_locks.Given as goal

abbrev pub invariant-loop-place : goal.invariant-loop-place
invariant-loop-place l = record {
  now : l.context.now ≡ partly unlocked (from l.places l.place-index) l.fn.context.now;
  marks : l.context.marks ≡ l.fn.context.marks;
}
