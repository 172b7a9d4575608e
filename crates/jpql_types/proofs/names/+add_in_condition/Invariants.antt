use Rattle.std.proofs.Common.{◌≡◌, ◌++◌, drop}
use Rattle.std.specs.List.{flat_map}
use Rattle.jpql_types.specs.Names.{in_join, in_source}
use Rattle.jpql_types.proofs.names.+add_in_condition.Given as goal

abbrev pub invariant-add_in_joins-loop-join : goal.invariant-add_in_joins-loop-join
invariant-add_in_joins-loop-join l =
    l.fn.names ++ flat_map (in_join l.which) l.joins ≡ l.names ++ flat_map (in_join l.which) (drop l.join-index l.joins)

abbrev pub invariant-add_in_sources-loop-source : goal.invariant-add_in_sources-loop-source
invariant-add_in_sources-loop-source l =
    l.fn.names ++ flat_map (in_source l.which) l.sources ≡ l.names ++ flat_map (in_source l.which) (drop l.source-index l.sources)
