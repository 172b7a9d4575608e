use Rattle.std.proofs.Common.{ap}
use Rattle.jpa_work.specs.context.Marks.{Marks}
use Rattle.jpa_work.specs.context.Undo.{now}
use Rattle.jpa_flush.proofs.marking.Ending.{none_called, none_left}
use Rattle.jpa_flush.proofs.marking.committed.marks_left.Goals as goal

pub returns-in-Ok-clause-left : goal.returns-in-Ok-clause-left
returns-in-Ok-clause-left c =
    let m = c.args.metamodel.now in
    let w = now c.args.work.now in
    none_left m w c.mark_left.new.marks c.requires.ready.distinct
    (c.in-Ok.ensures.called (none_called m w c.none-marks.result (ap (λ (k : Marks). k.objects) c.none-marks.ensures)))
