use Rattle.std.proofs.Common.{◌≡◌, ◌++◌}
use Rattle.jpa_work.specs.context.Undo.{now, since}
use Rattle.jpa_flush.specs.flush.Plan.{write_each, written_by}
use Rattle.jpa_flush.proofs.flush.writing.write_all.Given as goal

abbrev pub invariant-loop-planned : goal.invariant-loop-planned
invariant-loop-planned l = record {
  work : now l.work ≡ record (now l.fn.work) { view = (l.work.view).seen };
  put : write_each l.planned-iterator.rest.items (l.work.view).seen ≡ write_each l.fn.plan (l.fn.work.view).seen;
  written : l.written ++ written_by l.planned-iterator.rest.items ≡ written_by l.fn.plan;
  since : since l.work ≡ since l.fn.work;
}
