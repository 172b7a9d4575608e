use Rattle.jpa_cascade.proofs.Reaching.{waves_reach}
use Rattle.jpa_cascade.proofs.Cascades.{cascades_reach}
use Rattle.jpa_cascade.proofs.There.{waves_are_there}
use Rattle.jpa_cascade.proofs.laws.cascade_laws.Goals as goal

pub returns : goal.returns
returns c = record { cascades = cascades_reach; waves = waves_reach; there = waves_are_there }
