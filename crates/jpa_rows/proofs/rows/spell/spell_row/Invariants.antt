use Rattle.std.proofs.Common.{◌≡◌, ◌++◌, drop}
use Rattle.jpa_rows.specs.rows.Rows.{cells_of}
use Rattle.jpa_rows.proofs.rows.spell.spell_row.Given as goal

abbrev pub invariant-loop-field : goal.invariant-loop-field
invariant-loop-field l = l.cells ++ cells_of (drop l.field-index l.row) ≡ cells_of l.row
