use Rattle.std.proofs.Common.{◌≡◌, drop}
use Rattle.std.specs.List.{list_all}
use Rattle.jpql_trees.specs.declared.typed.typed.TypedCondition.TheViews.{out-TypedSource}
use Rattle.jpql_run.specs.Calm.{is_calm_source}
use Rattle.jpql_run.proofs.CalmParts.{calm_on}
use Rattle.jpql_run.proofs.calm.+is_calm.Given as goal

abbrev pub invariant-is_calm_source-loop-join : goal.invariant-is_calm_source-loop-join
invariant-is_calm_source-loop-join l = list_all calm_on (drop l.join-index (out-TypedSource l.source).joins) ≡ list_all calm_on (out-TypedSource l.source).joins

abbrev pub invariant-are_calm_sources-loop-source : goal.invariant-are_calm_sources-loop-source
invariant-are_calm_sources-loop-source l = list_all is_calm_source (drop l.source-index l.sources) ≡ list_all is_calm_source l.sources
