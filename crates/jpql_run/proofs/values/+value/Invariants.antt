use Rattle.std.proofs.Common.{◌≡◌, ◌++◌, drop, map}
use Rattle.jpa_open.specs.Opened.{now}
use Rattle.jpql_meaning.specs.eval.Answers.{every, under}
use Rattle.jpql_trees.specs.declared.typed.typed.TypedValue.{TypedValue}
use Rattle.jpql_meaning.specs.plan.Paths.{Tuple}
use Rattle.jpql_meaning.specs.plan.Meaning as meaning
use Rattle.jpql_meaning.specs.eval.Seen.{seen}
use Rattle.jpql_run.proofs.values.+value.Given as goal

-- what was found, and what is left
abbrev pub invariant-call-loop-one : goal.invariant-call-loop-one
invariant-call-loop-one l =
    let of = λ (v : TypedValue). meaning.value l.run.metamodel.now (now l.run.set.now) l.run.parameters.now v (record { tuple = l.tuple; group = l.group }) in
    every (map of l.all) ≡ under (λ more. map seen l.found.items ++ more) (every (map of (drop l.one-index l.all)))

abbrev pub invariant-over_group-loop-other : goal.invariant-over_group-loop-other
invariant-over_group-loop-other l =
    let of = λ (t : Tuple). meaning.value l.run.metamodel.now (now l.run.set.now) l.run.parameters.now l.operand (meaning.alone t) in
    every (map of l.group) ≡ under (λ more. map seen l.found.items ++ more) (every (map of (drop l.other-index l.group)))
