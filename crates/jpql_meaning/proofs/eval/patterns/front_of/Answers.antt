use Rattle.std.proofs.lemmas.List.{take_rest}
use Rattle.jpql_meaning.proofs.eval.Fronts.{open_here, more_by_any, more_by_this, differs, short, whole, left_over, takes_any, takes_this}
use Rattle.jpql_meaning.proofs.eval.patterns.front_of.Goals as goal
use Rattle.jpql_meaning.proofs.eval.patterns.front_of.Goals.{in-One+else-i-text, in-Plain+else-i-text-2+else-text-i}

pub returns-in-Many : goal.returns-in-Many
returns-in-Many c = simp take_rest (open_here c.args.marks.now c.args.text.now c.loop-i.i _ c.loop-i.invariant c.loop-i-test.true c.in-Many.is)

pub returns-then-i-text : goal.returns-then-i-text
returns-then-i-text c = short _ _ _ _ _ c.loop-i.invariant c.loop-i-test.true c.in-One.is (takes_any _) c.if-i-text.true

pub returns-then-i-text-2 : goal.returns-then-i-text-2
returns-then-i-text-2 c = short _ _ _ _ _ c.loop-i.invariant c.loop-i-test.true c.in-Plain.is (takes_this _ _) c.if-i-text-2.true

pub returns-then-text-i : goal.returns-then-text-i
returns-then-text-i c =
    differs _ _ _ _ _ _ c.loop-i.invariant c.loop-i-test.true c.in-Plain.is c.if-i-text-2.false c.index-text-i.is c.if-text-i.true

pub loop-i-preserved : goal.loop-i-preserved
loop-i-preserved c =
    elim c.match-mark.branch [
      | in-One+else-i-text w ↦ more_by_any _ _ _ _ c.loop-i.invariant c.loop-i-test.true w.in-One.is w.if-i-text.false
      | in-Plain+else-i-text-2+else-text-i w ↦
          more_by_this _ _ _ _ _ _ c.loop-i.invariant c.loop-i-test.true w.in-Plain.is w.if-i-text-2.false w.index-text-i.is w.if-text-i.false
    ]

pub returns-then-text-marks : goal.returns-then-text-marks
returns-then-text-marks c = whole _ _ _ c.loop-i.invariant c.loop-i-test.false c.loop-i.auto.i-end c.if-text-marks.true

pub returns-else-text-marks : goal.returns-else-text-marks
returns-else-text-marks c = left_over _ _ _ c.loop-i.invariant c.loop-i-test.false c.loop-i.auto.i-end c.if-text-marks.false
