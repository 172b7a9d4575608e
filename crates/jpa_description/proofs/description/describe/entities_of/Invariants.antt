use Rattle.std.proofs.Common.{◌≡◌, ◌++◌, map, drop}
use Rattle.jpa_model.specs.Described.{entity_of}
use Rattle.jpa_description.proofs.description.describe.entities_of.Given as goal

abbrev pub invariant-loop-entity : goal.invariant-loop-entity
invariant-loop-entity l = l.found ++ map (entity_of l.draft) (drop l.entity-index l.draft.entities) ≡ map (entity_of l.draft) l.draft.entities
