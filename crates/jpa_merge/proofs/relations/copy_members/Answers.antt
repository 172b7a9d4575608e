use Rattle.std.proofs.Common.{rules}
use Rattle.jpa_behaviour.specs.Served.{world_of_unit}
use Rattle.jpa_merge.proofs.relations.copy_members.Goals as goal

pub returns : goal.returns
returns g c =
    search (rules, c.settle_members.ensures.meets (world_of_unit g.B.Behaviour.meaning c.args.unit.now))
