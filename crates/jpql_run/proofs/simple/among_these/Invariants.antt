use Rattle.std.proofs.Common.{◌≡◌, drop, map}
use Rattle.jpa_open.specs.Opened.{now}
use Rattle.jpql_trees.specs.declared.tree.Comparison.{Comparison}
use Rattle.jpql_trees.specs.declared.typed.typed.TypedValue.{TypedValue}
use Rattle.jpql_meaning.specs.eval.Answers.{every, under}
use Rattle.jpql_meaning.specs.eval.Truths.{or3, any3}
use Rattle.jpql_meaning.specs.eval.Data.{compared}
use Rattle.jpql_meaning.specs.plan.Meaning as meaning
use Rattle.jpql_meaning.specs.eval.Seen.{seen}
use Rattle.jpql_run.proofs.simple.among_these.Given as goal

-- what those before give, and what is left
abbrev pub invariant-loop-one : goal.invariant-loop-one
invariant-loop-one l =
    let of = λ (v : TypedValue). meaning.value l.run.metamodel.now (now l.run.set.now) l.run.parameters.now v (record { tuple = l.tuple; group = l.group }) in
    meaning.among_all (seen l.found) (map of l.all)
    ≡ under (λ more. or3 l.truth (any3 (map (compared Comparison.Equal (seen l.found)) more))) (every (map of (drop l.one-index l.all)))
