use Rattle.jpql_meaning.specs.eval.Seen.{seen}
use Rattle.jpql_run.proofs.Narrowed.{compared_always}
use Rattle.jpql_run.proofs.bounds.bound_of.Goals as goal

pub returns-in-Some : goal.returns-in-Some
returns-in-Some c =
    compared_always c.args.run.now c.args.comparison c.args.left.now c.args.right.now c.in-Path.path (seen c.in-Some.other) c.in-Path.is c.in-Some.ensures
