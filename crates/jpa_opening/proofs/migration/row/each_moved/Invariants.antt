use Rattle.std.proofs.Common.{◌≡◌, ◌++◌}
use Rattle.std.specs.List.{flat_map}
use Rattle.jpa_opening.specs.migration.Plans.{cell_by}
use Rattle.jpa_opening.proofs.migration.row.each_moved.Given as goal

abbrev pub invariant-cells : goal.invariant-cells
invariant-cells l = (l.kept.items ≡ flat_map (cell_by l.plan) l.yielded) × (l.fn.cells.items ≡ l.yielded ++ l.cell-iterator.rest.items)
