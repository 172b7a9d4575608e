use Rattle.std.proofs.Common.{◌∙◌, sym}
use Rattle.jpql_run.proofs.Narrowed.{by_calm, by_none}
use Rattle.jpql_run.proofs.bounds.narrow.Goals as goal

pub returns-in-None : goal.returns-in-None
returns-in-None c = by_none c.args.run.now c.args.filter.now c.args.tuples.items c.in-None.is

pub returns-then-is_calm : goal.returns-then-is_calm
returns-then-is_calm c =
    let calm = sym c.is_calm.ensures ∙ c.if-is_calm.true in
    by_calm c.args.run.now c.args.filter.now c.get-condition.result.now c.in-Some.condition c.args.tuples.items c.narrow_in.result.tuples.items c.narrow_in.result.is_whole c.in-Some.is c.get-condition.ensures calm c.narrow_in.ensures
