use Rattle.jpa_stored.specs.ordered.Values.{own_value}
use Rattle.jpa_stored.specs.declared.ordered.cut.Span.{Span}
use Rattle.jpql_run.proofs.Outside.{between}
use Rattle.jpql_run.proofs.spans.spans_between.Goals as goal

pub returns-then-leave_none : goal.returns-then-leave_none
returns-then-leave_none c = λ member e out. c.leave_none.ensures c.if-leave_none.true (own_value member e)

pub returns : goal.returns
returns c =
    let span : Span = record { from = c.cut_of.result; to = c.cut_of-2.result } in
    between c.args.from c.args.to span _ c.cut_of.ensures c.cut_of-2.ensures c.in_ok-alone.ensures
