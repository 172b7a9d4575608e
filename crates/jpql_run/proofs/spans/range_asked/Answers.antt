use Rattle.std.specs.Global.{Vec}
use Rattle.jpa_stored.specs.declared.ordered.cut.Span.{Span}
use Rattle.jpql_run.specs.Equations.{conditions}
use Rattle.jpql_run.specs.Spans.{AreBetween, AsksSpans}
use Rattle.jpql_run.proofs.Keyed.{each_found}
use Rattle.jpql_run.proofs.Outside.{range_of}
use Rattle.jpql_run.proofs.spans.range_asked.Goals as goal

pub returns : goal.returns
returns c =
    let run = c.args.run.now in
    let cs = conditions c.args.asked.now in
    let t = c.args.tuple.now in
    let from = c.in_ok-from.from in
    let to = c.in_ok-to.to in
    each_found (λ (all : Vec Span). AreBetween from to all.items) (λ (all : Vec Span). AsksSpans run cs t c.args.member all.items)
    (λ (all : Vec Span) are. range_of run cs t c.args.member from to all.items c.in_ok-from.ensures c.in_ok-to.ensures are)
    c.spans_between.result c.spans_between.ensures
