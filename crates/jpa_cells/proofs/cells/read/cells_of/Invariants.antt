use Rattle.std.proofs.Common.{◌≡◌, map, take}
use Rattle.jpa_cells.specs.meaning.Content.{shown_cell}
use Rattle.jpa_cells.proofs.cells.read.cells_of.Given as goal

abbrev pub invariant-rows : goal.invariant-rows
invariant-rows l = l.cells.items ≡ map shown_cell (take l.row-index l.rows)
