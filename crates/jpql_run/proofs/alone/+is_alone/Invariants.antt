use Rattle.std.proofs.Common.{◌≡◌, drop}
use Rattle.std.specs.List.{list_all}
use Rattle.jpql_meaning.specs.plan.Alone.{is_alone_join, is_alone_source}
use Rattle.jpql_run.proofs.alone.+is_alone.Given as goal

abbrev pub invariant-are_alone_joins-loop-join : goal.invariant-are_alone_joins-loop-join
invariant-are_alone_joins-loop-join l = list_all (is_alone_join l.around) (drop l.join-index l.joins) ≡ list_all (is_alone_join l.around) l.joins

abbrev pub invariant-are_alone_sources-loop-source : goal.invariant-are_alone_sources-loop-source
invariant-are_alone_sources-loop-source l = list_all (is_alone_source l.around) (drop l.source-index l.sources) ≡ list_all (is_alone_source l.around) l.sources
