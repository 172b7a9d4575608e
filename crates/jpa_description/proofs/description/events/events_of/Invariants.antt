use Rattle.std.proofs.Common.{◌≡◌, ◌++◌, map, drop}
use Rattle.std.specs.List.{flat_map}
use Rattle.jpa_description.proofs.description.events.events_of.Given as goal

abbrev pub invariant-loop-listener : goal.invariant-loop-listener
invariant-loop-listener l =
    map (λ n. n.now) l.names.items ++ flat_map (λ x. x.events) (drop l.listener-index l.listeners)
    ≡ flat_map (λ x. x.events) l.listeners
