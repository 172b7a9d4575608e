use Rattle.std.proofs.Common.{◌≡◌, ◌++◌, take}
use Rattle.std.specs.List.{flat_map}
use Rattle.jpa_description.specs.history.History.{changes_of}
use Rattle.jpa_opening.specs.migration.Plans.{column_if_new}
use Rattle.jpa_opening.proofs.migration.planning.push_taken.Given as goal

abbrev pub invariant-loop-i : goal.invariant-loop-i
invariant-loop-i l = l.taken ≡ l.fn.taken ++ flat_map column_if_new (take l.i (changes_of l.metamodel l.history l.class))
