use Rattle.std.proofs.Common.{◌∙◌, ap, true, Some}
use Rattle.jpa_stored.specs.declared.ordered.cut.Span.{Span}
use Rattle.jpql_run.specs.Spans.{cut_at}
use Rattle.jpql_run.proofs.Outside.{covers_value}
use Rattle.jpql_run.proofs.spans.span_of.Goals as goal

pub returns : goal.returns
returns c =
    let span : Span = record { from = Some c.cut_at.result; to = Some c.cut_at-2.result } in
    covers_value c.args.value span (ap Some c.cut_at.ensures) (ap Some (c.cut_at-2.ensures ∙ ap (λ w. cut_at w true) c.in_ok-last.ensures))
