use Rattle.std.proofs.Common.{subst, [], ◌∷◌}
use Rattle.std.specs.Prelude.{Option, IfSome}
use Rattle.std.specs.Global.{Vec}
use Rattle.jpa_stored.specs.declared.ordered.cut.Span.{Span}
use Rattle.jpql_run.specs.Spans.{AsksSpans}
use Rattle.jpql_run.proofs.Outside.{asked_among}
use Rattle.jpql_run.proofs.spans.spans_in_any.Goals as goal

pub returns-in-Some : goal.returns-in-Some
returns-in-Some c =
    let run = c.args.run.now in
    let one = c.condition-item.result in
    let t = c.args.tuple.now in
    let member = c.args.member in
    asked_among run t member c.in-Some.all.items c.args.asked.now c.loop-condition.condition-index one c.loop-condition-test.true c.condition-item.is
    (subst (λ (o : Option (Vec Span)). IfSome o (λ all. AsksSpans run (one.now ∷ []) t member all.items)) c.in-Some.is c.in_ok-all.ensures)
