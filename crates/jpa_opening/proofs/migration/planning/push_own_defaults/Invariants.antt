use Rattle.std.proofs.Common.{◌≡◌, ◌++◌, take}
use Rattle.std.specs.List.{flat_map}
use Rattle.jpa_behaviour.specs.Registered.{world_of}
use Rattle.jpa_description.specs.history.History.{changes_of}
use Rattle.jpa_opening.specs.migration.Changed.{default_cell}
use Rattle.jpa_opening.proofs.migration.planning.push_own_defaults.Given as goal

abbrev pub invariant-loop-i : goal.invariant-loop-i
invariant-loop-i g l =
    l.cells ≡ l.fn.cells ++ flat_map (default_cell (world_of g.B.Behaviour.meaning l.metamodel l.registry)) (take l.i (changes_of l.metamodel l.history l.class))
