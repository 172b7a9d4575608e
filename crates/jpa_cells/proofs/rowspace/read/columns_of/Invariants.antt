use Rattle.std.proofs.Common.{◌≡◌, ◌++◌}
use Rattle.jpa_cells.specs.rowspace.Reading.{columns_of}
use Rattle.jpa_cells.proofs.rowspace.read.columns_of.Given as goal

abbrev pub invariant-cells : goal.invariant-cells
invariant-cells l = (l.columns ≡ columns_of l.yielded) × (l.fn.cells.items ≡ l.yielded ++ l.cell-iterator.rest.items)
