use Rattle.std.proofs.Common.{sym, subst}
use Rattle.jpa_work.specs.context.Marks.{Entries}
use Rattle.jpa_flush.specs.marking.Anew.{TakesMarksAway}
use Rattle.jpa_flush.proofs.marking.anew.mark_anew.Goals as goal

pub returns-clause-taken : goal.returns-clause-taken
returns-clause-taken c =
    let m = c.args.metamodel.now in
    let u = c.args.work.now in
    let k = c.marks_anew-anew.result in
    let left = c.take_marks-marks.new.self in
    let same = c.take_marks-marks.ensures in
    subst (TakesMarksAway m u) (sym c.mark.ensures.marks)
    (subst (λ (x : Entries). TakesMarksAway m (record u { context = x }) k) (λ i. record { now = same.now i; since = same.since i; marks = left.marks }) c.marks_anew-anew.ensures.taken)
