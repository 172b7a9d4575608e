use Rattle.std.proofs.Common.{◌+◌, sym, subst, List, Option, [], ◌∷◌}
use Rattle.std.specs.Prelude.{IfSome}
use Rattle.jpa_stored.specs.declared.ordered.cut.Span.{Span}
use Rattle.jpql_run.specs.Spans.{CoversAny}
use Rattle.jpql_run.proofs.Outside.{CoverBefore, all_before, none_before, one_more}
use Rattle.jpql_run.proofs.spans.spans_among.Goals as goal

pub loop-value-init : goal.loop-value-init
loop-value-init c = none_before c.args.run.now c.args.tuple.now _ c.args.values.now

pub loop-value-preserved : goal.loop-value-preserved
loop-value-preserved c =
    let run = c.args.run.now in
    let t = c.args.tuple.now in
    let ws = c.args.values.now in
    let i = c.loop-value.value-index in
    let w = c.value-item.result in
    let spans = c.loop-value.all.items in
    let span = c.in-Some.span in
    let covers : CoversAny run t (span ∷ []) w = subst (λ (o : Option Span). IfSome o (λ one. CoversAny run t (one ∷ []) w)) c.in-Some.is c.in_ok-span_for.ensures in
    subst (λ (all : List Span). CoverBefore run t all ws (i + 1)) (sym c.in_ok-push-in-Some.ensures.items)
    (one_more run t spans span ws i w c.loop-value-test.true c.value-item.is c.loop-value.invariant covers)

pub returns : goal.returns
returns c = all_before c.args.run.now c.args.tuple.now c.loop-value.all.items c.args.values.now c.loop-value.value-index c.loop-value-test.false c.loop-value.invariant
