use Rattle.std.proofs.Common.{◌≡◌, take}
use Rattle.std.specs.List.{flat_map}
use Rattle.jpa_behaviour.specs.Registered.{world_of}
use Rattle.jpa_description.specs.history.History.{changes_of}
use Rattle.jpa_opening.specs.migration.Changed.{default_cell}
use Rattle.jpa_opening.proofs.migration.planning.class_defaults.Given as goal

abbrev pub invariant-loop-above : goal.invariant-loop-above
invariant-loop-above g l =
    l.cells ≡ flat_map (λ c. flat_map (default_cell (world_of g.B.Behaviour.meaning l.metamodel l.registry)) (changes_of l.metamodel l.history c)) (take l.above-index l.above-items)
