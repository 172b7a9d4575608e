use Rattle.std.proofs.Common.{◌≡◌, drop}
use Rattle.jpa_work.specs.context.Undo.{now, since}
use Rattle.jpa_updates.specs.Changing.{take_each}
use Rattle.jpa_updates.proofs.writing.take_all.Given as goal

abbrev pub invariant-loop-id : goal.invariant-loop-id
invariant-loop-id l = record {
  work : now l.work ≡ record (now l.fn.work) { view = (l.work.view).seen };
  taken : take_each (drop l.id-index l.ids) (l.work.view).seen ≡ take_each l.ids (l.fn.work.view).seen;
  since : since l.work ≡ since l.fn.work;
}
