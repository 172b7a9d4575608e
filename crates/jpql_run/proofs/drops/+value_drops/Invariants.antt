use Rattle.std.proofs.Common.{◌≡◌, drop}
use Rattle.std.specs.List.{list_any}
use Rattle.jpa_open.specs.Opened.{now}
use Rattle.jpql_trees.specs.declared.typed.typed.TypedValue.{TypedValue}
use Rattle.jpql_meaning.specs.plan.Meaning.{value_drops}
use Rattle.jpql_run.proofs.drops.+value_drops.Given as goal

abbrev pub invariant-any_drops-loop-one : goal.invariant-any_drops-loop-one
invariant-any_drops-loop-one l =
    let of = λ (v : TypedValue). value_drops l.run.metamodel.now (now l.run.set.now) l.run.parameters.now v l.tuple in
    list_any of l.all ≡ list_any of (drop l.one-index l.all)
