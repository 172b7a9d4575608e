use Rattle.std.proofs.Common.{◌≡◌, drop}
use Rattle.jpa_behaviour.specs.Served.{world_of_unit}
use Rattle.jpa_work.specs.context.Undo.{now, since}
use Rattle.jpa_flush.specs.flush.Plan.{told_by}
use Rattle.jpa_flush.proofs.flush.Updated.{IsUpdated}
use Rattle.jpa_flush.proofs.flush.telling.tell_written.Given as goal

abbrev pub invariant-loop-told : goal.invariant-loop-told
invariant-loop-told g l = record {
  rest : told_by (world_of_unit g.B.Behaviour.meaning l.unit) (drop l.told-index l.written) (now l.work) ≡ told_by (world_of_unit g.B.Behaviour.meaning l.unit) l.written (now l.fn.work);
  same : IsUpdated (now l.fn.work) (now l.work);
  since : since l.work ≡ since l.fn.work;
}
