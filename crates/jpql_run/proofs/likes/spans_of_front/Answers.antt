use Rattle.std.proofs.Common.{◌+◌, arith, sym, subst, List, [], ◌∷◌}
use Rattle.jpa_stored.specs.declared.ordered.cut.Span.{Span}
use Rattle.jpql_run.specs.Likes.{CoversBegun, CoversOthers}
use Rattle.jpql_run.proofs.Alike.{begun_with, covers_more}
use Rattle.jpql_run.proofs.likes.spans_of_front.Goals as goal

pub loop-i-init : goal.loop-i-init
loop-i-init c =
    let front = c.args.front.now in
    ((λ k l. absurd (omega (arith, l))), subst (λ (all : List Span). CoversBegun front [] all) (sym {A = List Span} c.in_ok-all.ensures) c.in_ok-first.ensures)

pub loop-i-preserved : goal.loop-i-preserved
loop-i-preserved c =
    let front = c.args.front.now in
    let i = c.loop-i.i in
    let before = c.loop-i.all.items in
    let span = c.in_ok-span_begun.field-0 in
    subst (λ (all : List Span). CoversOthers front (i + 1) all × CoversBegun front [] all) (sym {A = List Span} c.in_ok-push.ensures.items)
    (covers_more front i before span c.loop-i.invariant.0 c.in_ok-span_begun.ensures, begun_with front [] before (span ∷ []) c.loop-i.invariant.1)

pub returns : goal.returns
returns c = ((λ k l. c.loop-i.invariant.0 k (omega (arith, l, c.loop-i-test.false))), c.loop-i.invariant.1)
