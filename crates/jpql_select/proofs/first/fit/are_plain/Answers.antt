use Rattle.std.proofs.Common.{subst}
use Rattle.std.proofs.lemmas.List.Elements.{All-more}
use Rattle.jpql_run.specs.Keys.{NeverOverflows}
use Rattle.jpql_run.proofs.Told.{all_from}
use Rattle.jpql_select.proofs.first.fit.are_plain.Goals as goal

pub loop-item-preserved : goal.loop-item-preserved
loop-item-preserved c =
    let item = c.item-item.result in
    All-more NeverOverflows c.args.items.now c.loop-item.item-index item c.loop-item-test.true c.loop-item.invariant
    (subst NeverOverflows c.item-item.is (c.is_plain.ensures c.if-not-is_plain.false))

pub returns : goal.returns
returns c = λ _. all_from NeverOverflows c.args.items.now c.loop-item.item-index c.loop-item-test.false c.loop-item.invariant
