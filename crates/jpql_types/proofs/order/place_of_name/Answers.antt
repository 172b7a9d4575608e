use Rattle.std.proofs.Common.{◌∙◌}
use Rattle.jpql_trees.specs.declared.tree.Item.{Item}
use Rattle.jpql_types.proofs.ByName.{place_either_way}
use Rattle.jpql_types.proofs.order.place_of_name.Goals as goal

pub returns : goal.returns
returns c = c.place.ensures ∙ place_either_way (λ (i : Item). i.name) c.args.name.now 0 c.args.items.now
