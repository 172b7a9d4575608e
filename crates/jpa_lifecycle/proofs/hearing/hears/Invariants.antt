use Rattle.std.proofs.Common.{◌≡◌, drop}
use Rattle.std.specs.List.{list_any}
use Rattle.jpa_lifecycle.specs.Callbacks.{same_event}
use Rattle.jpa_lifecycle.proofs.hearing.hears.Given as goal

-- what was passed is another's
abbrev pub invariant-loop-heard : goal.invariant-loop-heard
invariant-loop-heard l = list_any (same_event l.event) (drop l.heard-index l.listener.events) ≡ list_any (same_event l.event) l.listener.events
