use Rattle.std.proofs.Common.{◌≡◌, ◌++◌, map, drop}
use Rattle.jpa_description.specs.history.Condition.{change_of}
use Rattle.jpa_description.proofs.history.described.changes_of.Given as goal

abbrev pub invariant-loop-change : goal.invariant-loop-change
invariant-loop-change l = l.made ++ map change_of (drop l.change-index l.changes) ≡ map change_of l.changes
