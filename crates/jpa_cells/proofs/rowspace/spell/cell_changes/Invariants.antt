use Rattle.std.proofs.Common.{◌≡◌, ◌++◌, drop}
use Rattle.jpa_cells.specs.rowspace.Stored.{cell_changes}
use Rattle.jpa_cells.proofs.rowspace.spell.cell_changes.Given as goal

abbrev pub invariant-loop-change : goal.invariant-loop-change
invariant-loop-change l = l.made ++ cell_changes (drop l.change-index l.changes) ≡ cell_changes l.changes
