use Rattle.std.proofs.Common.{subst}
use Rattle.std.proofs.lemmas.List.Elements.{All-more}
use Rattle.jpql_select.specs.first.First.{GoesByTuple}
use Rattle.jpql_run.proofs.Told.{all_from}
use Rattle.jpql_select.proofs.first.fit.are_paths.Goals as goal

pub loop-key-preserved : goal.loop-key-preserved
loop-key-preserved c =
    let item = c.key-item.result in
    All-more GoesByTuple c.args.keys.now c.loop-key.key-index item c.loop-key-test.true c.loop-key.invariant
    (subst GoesByTuple c.key-item.is (c.is_path.ensures c.if-not-is_path.false))

pub returns : goal.returns
returns c = λ _. all_from GoesByTuple c.args.keys.now c.loop-key.key-index c.loop-key-test.false c.loop-key.invariant
