use Rattle.std.proofs.Common.{◌≡◌, drop}
use Rattle.std.specs.List.{list_all}
use Rattle.jpa_model.specs.WellFormed.{has_events_of}
use Rattle.jpa_description.proofs.description.events.has_events.Given as goal

abbrev pub invariant-loop-entity : goal.invariant-loop-entity
invariant-loop-entity l = list_all has_events_of (drop l.entity-index l.draft.entities) ≡ list_all has_events_of l.draft.entities
