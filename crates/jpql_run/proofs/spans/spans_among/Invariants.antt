use Rattle.jpql_run.proofs.Outside.{CoverBefore}
use Rattle.jpql_run.proofs.spans.spans_among.Given as goal

-- the values before have their spans
abbrev pub invariant-loop-value : goal.invariant-loop-value
invariant-loop-value l = CoverBefore l.run l.tuple l.all.items l.values l.value-index
