use Rattle.std.proofs.Common.{◌≡◌, ◌++◌}
use Rattle.jpa_cells.specs.rowspace.Reading.{AreEntries}
use Rattle.jpa_cells.proofs.rowspace.read.rows_of.Given as goal

abbrev pub invariant-rows : goal.invariant-rows
invariant-rows l = AreEntries l.table l.yielded l.rows × (l.fn.stored.items ≡ l.yielded ++ l.row-iterator.rest.items)
