use Rattle.std.proofs.Common.{◌≡◌, ◌++◌, drop}
use Rattle.jpa_lifecycle.specs.Callbacks.{hearing}
use Rattle.jpa_lifecycle.proofs.hearing.push_hearing.Given as goal

abbrev pub invariant-loop-listener : goal.invariant-loop-listener
invariant-loop-listener l = l.names ++ hearing l.event (drop l.listener-index l.listeners) ≡ l.fn.names ++ hearing l.event l.listeners
