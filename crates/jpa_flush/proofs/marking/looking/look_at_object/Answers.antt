use Rattle.std.proofs.Common.{◌∙◌, ◌≢◌, sym}
use Rattle.std.specs.Prelude.{Result, Ok, Err, OnOk}
use Rattle.jpa_value.specs.declared.refusal.Cause.{Cause}
use Rattle.jpa_work.specs.context.Undo.{now}
use Rattle.jpa_flush.specs.marking.Anew.{IsGoneOver}
use Rattle.jpa_flush.proofs.marking.Over.{IsOfAnother, over_placed, over_unplaced}
use Rattle.jpa_flush.proofs.marking.looking.look_at_object.Goals as goal

-- what holds of an answer that is accepted
where_ok : (P Q : Type 0) → (P → Q) → (r : Result (Unit {0}) Cause) → OnOk r P → OnOk r Q
where_ok P Q f (Ok a) h = f h
where_ok P Q f (Err e) h = tt

pub returns-in-Some : goal.returns-in-Some
returns-in-Some c =
    let m = c.args.metamodel.now in
    let w = now c.args.work.now in
    let a = c.args.marks.now in
    let b = c.look_at.new.marks in
    where_ok (IsGoneOver m w (λ i. i ≢ c.in-Some.place) a b) (IsGoneOver m w (IsOfAnother w c.args.object) a b)
    (over_placed m w c.args.object c.requires.ready.distinct c.in-Some.place a b (sym c.place_of.ensures ∙ c.in-Some.is)) c.look_at.result c.look_at.ensures

pub returns-in-None : goal.returns-in-None
returns-in-None c =
    over_unplaced c.args.metamodel.now (now c.args.work.now) c.args.object c.requires.ready.distinct c.args.marks.now (sym c.place_of.ensures ∙ c.in-None.is)
