use Rattle.jpa_stored.specs.declared.ordered.cut.Span.{Span}
use Rattle.jpql_run.proofs.Alike.{span_covers}
use Rattle.jpql_run.proofs.likes.span_begun.Goals as goal

pub returns : goal.returns
returns c =
    let span : Span = record { from = c.in_ok-from.from; to = c.in_ok-to.to } in
    span_covers c.args.front.now c.args.next.now span c.in_ok-from.ensures c.in_ok-to.ensures
