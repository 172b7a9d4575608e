use Rattle.jpa_description.proofs.description.chains.+chain_from.Given as goal

abbrev pub decreases-chain_from : goal.decreases-chain_from
decreases-chain_from l = l.steps
