use Rattle.jpa_provider.proofs.moding.set_flush_mode_call.Goals as goal

pub returns-clause-rest : goal.returns-clause-rest
returns-clause-rest g c = record {
  settled = c.change_mode.ensures.rest.settled c.requires.settled;
  marked = c.change_mode.ensures.rest.marked c.args._unit.now.metamodel c.requires.marked;
}
