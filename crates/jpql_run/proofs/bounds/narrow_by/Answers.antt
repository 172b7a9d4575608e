use Rattle.jpql_trees.specs.declared.typed.typed.TypedCondition.TheVariants as is
use Rattle.jpql_run.proofs.Narrowed.{by_any, by_bound}
use Rattle.jpql_run.proofs.bounds.narrow_by.Goals as goal

pub returns-in-Some : goal.returns-in-Some
returns-in-Some c =
    by_bound c.args.run.now c.args.comparison c.args.left.now c.args.right.now c.in-Some.bound c.args.tuples.items c.passing.result.items c.in-Some.ensures c.passing.ensures

pub returns-in-None : goal.returns-in-None
returns-in-None c = by_any c.args.run.now (is.Compare c.args.comparison c.args.left.now c.args.right.now) c.args.tuples.items
