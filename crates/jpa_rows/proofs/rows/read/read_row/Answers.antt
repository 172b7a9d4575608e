use Rattle.std.specs.Prelude.{Option}
use Rattle.std.proofs.Common.{sym, subst}
use Rattle.jpa_rows.specs.rows.Rows.{Row, SpellsRow}
use Rattle.jpa_rows.specs.rows.Spellings.{Finds}
use Rattle.jpa_rows.proofs.rows.Fields.{row_found}
use Rattle.jpa_rows.proofs.rows.read.read_row.Goals as goal

pub returns-clause-spelled : goal.returns-clause-spelled
returns-clause-spelled c =
    subst (λ (o : Option Row). Finds (SpellsRow c.args.table.now c.args.cells.now) o) (sym c.rising_row.ensures)
    (row_found c.args.table.now c.args.cells.now c.in_ok-read_fields.field-0 c.in_ok-read_fields.ensures.spelled)
