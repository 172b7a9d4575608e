use Rattle.jpa_provider.proofs.at_work.mark_unless.Goals as goal

pub returns-then-not-stay-clause-marked : goal.returns-then-not-stay-clause-marked
returns-then-not-stay-clause-marked c = λ model marked. c.mark_all.ensures.marked model
