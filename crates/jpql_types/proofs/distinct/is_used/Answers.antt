use Rattle.std.proofs.Common.{◌∙◌}
use Rattle.jpql_types.proofs.ByName.{any_either_way}
use Rattle.jpql_types.proofs.distinct.is_used.Goals as goal

pub returns : goal.returns
returns c = c.has.ensures ∙ any_either_way c.args.name.now c.args.names.now
