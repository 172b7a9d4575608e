use Rattle.std.proofs.Common.{rules}
use Rattle.jpa_behaviour.specs.Served.{world_of_unit}
use Rattle.jpa_operations.proofs.ops.persisting.persist_new.Goals as goal

pub returns-in_err-become_managed : goal.returns-in_err-become_managed
returns-in_err-become_managed g c =
    search (rules, c.become_managed.ensures.meets (world_of_unit g.B.Behaviour.meaning c.args.unit.now))

pub returns : goal.returns
returns g c =
    search (rules, c.become_managed.ensures.meets (world_of_unit g.B.Behaviour.meaning c.args.unit.now))
