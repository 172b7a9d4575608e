use Rattle.std.proofs.Common.{◌≡◌, ◌++◌, drop}
use Rattle.std.specs.List.{flat_map}
use Rattle.jpa_description.specs.history.Condition.{moved_from}
use Rattle.jpa_description.proofs.history.apart.push_moved.Given as goal

abbrev pub invariant-loop-change : goal.invariant-loop-change
invariant-loop-change l =
    l.columns.items ++ flat_map moved_from (drop l.change-index l.changes) ≡ l.fn.columns.items ++ flat_map moved_from l.changes
