use Rattle.std.proofs.Common.{take}
use Rattle.jpa_rows.specs.rows.Spellings.{SpellsFields}
use Rattle.jpa_rows.proofs.rows.read.read_fields.Given as goal

abbrev pub invariant-loop-cell : goal.invariant-loop-cell
invariant-loop-cell l = SpellsFields l.table (take l.cell-index l.cells) l.row
