use Rattle.std.proofs.Common.{◌≡◌, true, drop, length}
use Rattle.jpa_work.specs.context.Undo.{now, since}
use Rattle.jpa_operations.specs.fetch.Grown.{IsReady}
use Rattle.jpa_flush.specs.flush.Entered.{are_entered}
use Rattle.jpa_flush.specs.flush.Plan.{learned_by}
use Rattle.jpa_flush.proofs.flush.settling.settle.Given as goal

abbrev pub invariant-loop-planned : goal.invariant-loop-planned
invariant-loop-planned l = record {
  rest : learned_by l.metamodel (drop l.planned-index l.plan) (now l.work) ≡ learned_by l.metamodel l.plan (now l.fn.work);
  ready : IsReady l.metamodel (now l.work);
  entered : are_entered (drop l.planned-index l.plan) (now l.work).context ≡ true;
  objects : length (now l.work).objects ≡ length (now l.fn.work).objects;
  since : since l.work ≡ since l.fn.work;
}
