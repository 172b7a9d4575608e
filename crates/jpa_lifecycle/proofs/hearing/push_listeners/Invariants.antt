use Rattle.std.proofs.Common.{◌≡◌, ◌++◌, drop}
use Rattle.std.specs.List.{flat_map}
use Rattle.jpa_model.specs.Chains.{entity_at}
use Rattle.jpa_lifecycle.specs.Callbacks.{hearing}
use Rattle.jpa_lifecycle.proofs.hearing.push_listeners.Given as goal

abbrev pub invariant-loop-class : goal.invariant-loop-class
invariant-loop-class l =
    l.names ++ hearing l.event (flat_map (λ c. (entity_at l.metamodel c).listeners) (drop l.class-index l.classes))
    ≡ l.fn.names ++ hearing l.event (flat_map (λ c. (entity_at l.metamodel c).listeners) l.classes)
