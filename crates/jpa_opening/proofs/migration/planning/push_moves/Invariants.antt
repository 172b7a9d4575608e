use Rattle.std.proofs.Common.{◌≡◌, ◌++◌, take}
use Rattle.std.specs.List.{flat_map}
use Rattle.jpa_description.specs.history.History.{changes_of}
use Rattle.jpa_opening.specs.migration.Plans.{move_of}
use Rattle.jpa_opening.proofs.migration.planning.push_moves.Given as goal

abbrev pub invariant-loop-i : goal.invariant-loop-i
invariant-loop-i l = l.moves ≡ l.fn.moves ++ flat_map move_of (take l.i (changes_of l.metamodel l.history l.class))
