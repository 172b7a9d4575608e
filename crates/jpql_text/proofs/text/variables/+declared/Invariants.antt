use Rattle.std.proofs.Common.{◌≡◌, ◌≤◌, ◌+◌, min, map, sum, drop}
use Rattle.jpql_trees.specs.tree.Variables as spec
use Rattle.jpql_text.proofs.text.variables.+declared.Given as goal

-- those that were passed, and those that are left
abbrev pub invariant-in_joins-loop-join : goal.invariant-in_joins-loop-join
invariant-in_joins-loop-join l = (l.found ≤ 9) × (min 9 (sum (map spec.in_join l.joins)) ≡ min 9 (l.found + sum (map spec.in_join (drop l.join-index l.joins))))

abbrev pub invariant-in_sources-loop-source : goal.invariant-in_sources-loop-source
invariant-in_sources-loop-source l = (l.found ≤ 9) × (min 9 (sum (map spec.in_source l.sources)) ≡ min 9 (l.found + sum (map spec.in_source (drop l.source-index l.sources))))
