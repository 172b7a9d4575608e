use Rattle.std.proofs.Common.{◌≡◌, ◌++◌, map, drop}
use Rattle.jpa_model.specs.Described.{listener_of}
use Rattle.jpa_description.proofs.description.describe.listeners_of.Given as goal

abbrev pub invariant-loop-listener : goal.invariant-loop-listener
invariant-loop-listener l = l.found ++ map listener_of (drop l.listener-index l.listeners) ≡ map listener_of l.listeners
