use Rattle.jpa_provider.proofs.ending.set_rollback_only_call.Goals as goal

pub returns-clause-rest : goal.returns-clause-rest
returns-clause-rest g c = record {
  settled = c.mark.ensures.rest.settled c.requires.settled;
  marked = c.mark.ensures.rest.marked c.args._unit.now.metamodel c.requires.marked;
}
