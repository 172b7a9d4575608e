use Rattle.std.proofs.Common.{◌≡◌, rules}
use Rattle.jpql_text.proofs.text.Spreading.{one_value}
use Rattle.jpql_text.proofs.text.lists.add_values.Goals as goal

pub loop-before-preserved : goal.loop-before-preserved
loop-before-preserved c =
    let same_name : c.as_str.result.now ≡ c.args.list.now.name = search rules in
    one_value _ c.loop-before.found.items _ c.args.list.now.name c.as_str.result.now c.loop-before.before c.loop-before.invariant same_name c.in_ok-add_value.ensures
