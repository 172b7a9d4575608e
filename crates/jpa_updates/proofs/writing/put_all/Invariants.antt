use Rattle.std.proofs.Common.{◌≡◌, drop}
use Rattle.jpa_work.specs.context.Undo.{now, since}
use Rattle.jpa_stored.specs.objects.Sets as sets
use Rattle.jpa_updates.proofs.writing.put_all.Given as goal

abbrev pub invariant-loop-object : goal.invariant-loop-object
invariant-loop-object l = record {
  work : now l.work ≡ record (now l.fn.work) { view = (l.work.view).seen };
  put : sets.put_all (drop l.object-index l.objects) (l.work.view).seen ≡ sets.put_all l.objects (l.fn.work.view).seen;
  since : since l.work ≡ since l.fn.work;
}
