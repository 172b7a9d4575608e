use Rattle.std.proofs.Common.{◌∙◌, sym, subst}
use Rattle.std.specs.Prelude.{Option, IfSome}
use Rattle.jpa_value.specs.declared.value.Value.{Value}
use Rattle.jpql_meaning.specs.eval.Seen.{seen}
use Rattle.jpql_run.specs.Keys.{IsPart}
use Rattle.jpql_run.proofs.Outside.{covers_equal, covers_null}
use Rattle.jpql_run.proofs.spans.span_of_equal.Goals as goal

pub returns-then-is_nothing : goal.returns-then-is_nothing
returns-then-is_nothing c = covers_null (seen c.args.known.now) c.empty_span.result (sym c.is_nothing.ensures ∙ c.if-is_nothing.true)

pub returns-in_ok-span_of-in-Some : goal.returns-in_ok-span_of-in-Some
returns-in_ok-span_of-in-Some c =
    let d = seen c.args.known.now in
    let part = subst (λ (o : Option Value). IfSome o (IsPart d)) c.in-Some.is c.in_ok-part_of.ensures in
    covers_equal d c.in-Some.value _ part.0 c.in_ok-span_of-in-Some.ensures
