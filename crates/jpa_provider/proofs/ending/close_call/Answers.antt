use Rattle.jpa_behaviour.specs.Served.{world_of_unit}
use Rattle.jpa_provider.proofs.Serving.{entries_in}
use Rattle.jpa_provider.proofs.ending.close_call.Goals as goal

pub shut-requires-clause-manager : goal.shut-requires-clause-manager
shut-requires-clause-manager g c = record { within = c.in-Some.ensures.within; entries = entries_in c.args.session.now c.requires.machine c.in-Some.manager }

pub returns-clause-rest : goal.returns-clause-rest
returns-clause-rest g c = record {
  settled = c.shut.ensures.settled;
  marked = c.shut.ensures.marked (world_of_unit g.B.Behaviour.meaning c.args._unit.now) c.requires.machine c.requires.marked;
}
