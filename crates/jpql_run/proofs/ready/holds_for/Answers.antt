use Rattle.std.proofs.Common.{rules, arith, subst, ◌≡◌, length}
use Rattle.jpql_meaning.specs.eval.Finds.{Finds, same}
use Rattle.jpql_run.proofs.ready.holds_for.Goals as goal

pub returns : goal.returns
returns c =
    let many : length c.args.tuple.now ≡ c.args.around = first_of (cc, omega arith, search rules) in
    subst (Finds same c.holds.result) (c.requires.ready c.args.tuple.now many) c.holds.ensures
