use Rattle.std.proofs.Common.{◌≡◌, ◌++◌, drop}
use Rattle.std.specs.Prelude.{filter_map}
use Rattle.jpa_model.specs.Drafted.{event_of}
use Rattle.jpa_description.proofs.description.describe.events_of.Given as goal

abbrev pub invariant-loop-name : goal.invariant-loop-name
invariant-loop-name l = l.found ++ filter_map event_of (drop l.name-index l.names) ≡ filter_map event_of l.names
