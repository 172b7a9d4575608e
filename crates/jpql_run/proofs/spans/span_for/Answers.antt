use Rattle.std.proofs.Common.{subst, ℕ, [], ◌∷◌}
use Rattle.jpa_stored.specs.declared.ordered.cut.Span.{Span}
use Rattle.jpql_meaning.specs.eval.Seen.{seen}
use Rattle.jpql_run.specs.Equations.{IsKnownAt}
use Rattle.jpql_run.specs.Spans.{CoversAny, CoversEqual}
use Rattle.jpql_run.proofs.Keyed.{each_found}
use Rattle.jpql_run.proofs.Outside.{covers_one}
use Rattle.jpql_run.proofs.spans.span_for.Goals as goal

pub returns-in-Some : goal.returns-in-Some
returns-in-Some c =
    let run = c.args.run.now in
    let t = c.args.tuple.now in
    let w = c.args.value.now in
    let d = seen c.in-Some.known in
    let known = subst (λ (n : ℕ). IsKnownAt n w) c.len.ensures (c.is_known.ensures c.if-not-is_known.false) in
    each_found (CoversEqual d) (λ (span : Span). CoversAny run t (span ∷ []) w) (λ (span : Span) covers. covers_one run t w d span known c.in-Some.ensures covers)
    c.span_of_equal.result c.span_of_equal.ensures
