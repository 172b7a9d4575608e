use Rattle.std.proofs.Common.{◌≡◌, drop}
use Rattle.jpa_behaviour.specs.Served.{world_of_unit}
use Rattle.jpa_work.specs.context.Steps.{each}
use Rattle.jpa_work.specs.context.Undo.{now, since}
use Rattle.jpa_operations.specs.fetch.Grown.{IsReady}
use Rattle.jpa_flush.specs.flush.Flush.{pre_update, pre_update_one}
use Rattle.jpa_flush.specs.flush.Marked.{from}
use Rattle.jpa_flush.proofs.flush.TurnsOfUpdates.{AreQuiet}
use Rattle.jpa_flush.proofs.flush.Updated.{IsUpdated}
use Rattle.jpa_flush.proofs.flush.walking.tell_updates_at.Given as goal

abbrev pub invariant-loop-place : goal.invariant-loop-place
invariant-loop-place g l = record {
  rest : each (pre_update_one (world_of_unit g.B.Behaviour.meaning l.unit)) (drop (from l.places l.place-index) (now l.fn.work).context) (now l.work) ≡ pre_update (world_of_unit g.B.Behaviour.meaning l.unit) (now l.fn.work);
  same : IsUpdated (now l.fn.work) (now l.work);
  quiet : AreQuiet l.places (now l.fn.work) (now l.work);
  ready : IsReady l.unit.metamodel (now l.work);
  since : since l.work ≡ since l.fn.work;
}
