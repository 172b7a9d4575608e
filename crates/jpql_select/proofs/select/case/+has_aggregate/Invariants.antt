use Rattle.std.proofs.Common.{◌≡◌, drop}
use Rattle.std.specs.List.{list_any}
use Rattle.jpql_meaning.specs.plan.Selection.{has_aggregate}
use Rattle.jpql_select.proofs.select.case.+has_aggregate.Given as goal

abbrev pub invariant-have_aggregate-loop-value : goal.invariant-have_aggregate-loop-value
invariant-have_aggregate-loop-value l = list_any has_aggregate l.values ≡ list_any has_aggregate (drop l.value-index l.values)
