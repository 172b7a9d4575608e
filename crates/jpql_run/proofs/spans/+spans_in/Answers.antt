use Rattle.std.proofs.Common.{sym, subst, ℕ, List, [], ◌∷◌}
use Rattle.std.specs.Prelude.{All, Option, IfOk, IfSome}
use Rattle.std.specs.Global.{Vec}
use Rattle.jpa_stored.specs.declared.ordered.cut.Span.{Span}
use Rattle.jpql_trees.specs.declared.typed.typed.TypedCondition.{TypedCondition}
use Rattle.jpql_trees.specs.declared.typed.typed.TypedValue.{TypedValue}
use Rattle.jpql_run.specs.Ends.{IsOwn}
use Rattle.jpql_run.specs.Spans.{AsksSpans, CoversAny}
use Rattle.jpql_run.proofs.Keyed.{each_found}
use Rattle.jpql_run.proofs.Outside.{of_in, of_left, of_null, of_right}
use Rattle.jpql_run.proofs.spans.+spans_in.Goals as goal

pub returns-in-Some : goal.returns-in-Some
returns-in-Some u c =
    let run = c.args.run.now in
    let t = c.args.tuple.now in
    let member = c.args.member in
    let all = c.in-Some.all.items in
    subst (λ (d : TypedCondition). AsksSpans run (d ∷ []) t member all) (sym c.in-And.is)
    (of_left run t member all c.in-And.left c.in-And.right
    (subst (λ (d : TypedCondition). AsksSpans run (d ∷ []) t member all) c.get.ensures
    (subst (λ (o : Option (Vec Span)). IfSome o (λ found. AsksSpans run (c.get.result.now ∷ []) t member found.items)) c.in-Some.is c.in_ok-all-in-And.ensures)))

pub returns-in-None : goal.returns-in-None
returns-in-None u c =
    let run = c.args.run.now in
    let t = c.args.tuple.now in
    let member = c.args.member in
    each_found (λ (all : Vec Span). AsksSpans run (c.get-in-None.result.now ∷ []) t member all.items) (λ (all : Vec Span). AsksSpans run (c.args.condition.now ∷ []) t member all.items)
    (λ (all : Vec Span) asks. subst (λ (d : TypedCondition). AsksSpans run (d ∷ []) t member all.items) (sym c.in-And.is)
    (of_right run t member all.items c.in-And.left c.in-And.right (subst (λ (d : TypedCondition). AsksSpans run (d ∷ []) t member all.items) c.get-in-None.ensures asks)))
    c.spans_in-in-None.result c.spans_in-in-None.ensures

pub returns-then-is_own : goal.returns-then-is_own
returns-then-is_own u c =
    let run = c.args.run.now in
    let t = c.args.tuple.now in
    let member = c.args.member in
    let at = c.in-In in
    let own = subst (λ (n : ℕ). IsOwn n member at.value) c.len.ensures (c.is_own.ensures c.if-is_own.true) in
    each_found (λ (all : Vec Span). All (CoversAny run t all.items) c.as_slice.result.now) (λ (all : Vec Span). AsksSpans run (c.args.condition.now ∷ []) t member all.items)
    (λ (all : Vec Span) covers. subst (λ (d : TypedCondition). AsksSpans run (d ∷ []) t member all.items) (sym at.is)
    (of_in run t member at.value at.values all.items own (subst (λ (ws : List TypedValue). All (CoversAny run t all.items) ws) c.as_slice.ensures covers)))
    c.spans_among.result c.spans_among.ensures

pub returns-in_ok-alone-in-IsNull : goal.returns-in_ok-alone-in-IsNull
returns-in_ok-alone-in-IsNull u c =
    let member = c.args.member in
    let at = c.in-IsNull in
    let own = subst (λ (n : ℕ). IsOwn n member at.value) c.len-in-IsNull.ensures (c.is_own-in-IsNull.ensures c.if-is_own-2.true) in
    of_null c.args.run.now c.args.tuple.now member c.args.condition.now at.value _ _ at.is c.in_ok-alone-in-IsNull.ensures own c.in_ok-span_of-in-IsNull.ensures

pub returns-in-Like : goal.returns-in-Like
returns-in-Like u c =
    let run = c.args.run.now in
    let t = c.args.tuple.now in
    let member = c.args.member in
    subst (λ (d : TypedCondition). IfOk c.spans_alike.result (λ (found : Option (Vec Span)). IfSome found (λ all. AsksSpans run (d ∷ []) t member all.items))) (sym c.in-Like.is) c.spans_alike.ensures
