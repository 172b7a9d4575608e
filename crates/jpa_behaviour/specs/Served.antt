-- The world of a persistence unit with the functions that are stored for it.
use Rattle.jpa_behaviour.specs.declared.served_unit.ServedUnit.{ServedUnit}
use Rattle.jpa_behaviour.specs.Behaviour.{World}
use Rattle.jpa_behaviour.specs.Registered.{Meaning, world_of}

-- what the entities of a unit and its stored functions mean
abbrev pub world_of_unit : {B L C : Type 0} → Meaning L C → ServedUnit B L C → World
world_of_unit meaning u = world_of meaning u.metamodel u.registry
