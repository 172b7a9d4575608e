use Rattle.jpql_select.proofs.select.Placed.{added}
use Rattle.jpql_select.proofs.select.groups.add.Goals as goal

pub returns : goal.returns
returns c = added c.args.groups.now.items c.args.place c.index_mut.result.now c.push.new.self c.args.tuple c.requires c.index_mut.ensures.value c.in_ok-push.ensures.items
