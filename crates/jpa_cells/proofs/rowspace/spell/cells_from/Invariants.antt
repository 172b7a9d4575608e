use Rattle.std.proofs.Common.{◌≡◌, ◌++◌}
use Rattle.jpa_cells.specs.rowspace.Reading.{cells_from}
use Rattle.jpa_cells.proofs.rowspace.spell.cells_from.Given as goal

abbrev pub invariant-columns : goal.invariant-columns
invariant-columns l = (l.cells ≡ cells_from l.yielded) × (l.fn.spelled.items ≡ l.yielded ++ l.column-iterator.rest.items)
