use Rattle.std.proofs.Common.{◌≡◌}
use Rattle.jpa_work.specs.context.Undo.{now, since}
use Rattle.jpa_operations.specs.fetch.Grown.{IsReady}
use Rattle.jpa_flush.specs.flush.Flush.{remembered}
use Rattle.jpa_flush.specs.flush.Marked.{from}
use Rattle.jpa_flush.proofs.flush.Settled.{partly}
use Rattle.jpa_flush.proofs.flush.walking.remember_at.Given as goal

abbrev pub invariant-loop-place : goal.invariant-loop-place
invariant-loop-place l = record {
  same : now l.work ≡ record (now l.fn.work) { context = partly (remembered l.metamodel (now l.fn.work)) (from l.places l.place-index) (now l.fn.work).context };
  ready : IsReady l.metamodel (now l.work);
  since : since l.work ≡ since l.fn.work;
}
