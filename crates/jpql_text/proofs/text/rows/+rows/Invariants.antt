use Rattle.std.proofs.Common.{◌≡◌, map, drop}
use Rattle.jpql_grammar.specs.grammar.Rows as spec
use Rattle.jpql_text.proofs.text.rows.+rows.Given as goal

-- those that were passed have none
abbrev pub invariant-in_joins-loop-join : goal.invariant-in_joins-loop-join
invariant-in_joins-loop-join l = spec.any_so (map spec.join_has_rows l.joins) ≡ spec.any_so (map spec.join_has_rows (drop l.join-index l.joins))

abbrev pub invariant-in_sources-loop-source : goal.invariant-in_sources-loop-source
invariant-in_sources-loop-source l = spec.any_so (map spec.source_has_rows l.sources) ≡ spec.any_so (map spec.source_has_rows (drop l.source-index l.sources))
