use Rattle.std.specs.Prelude.{ℕ, ℤ, List, Option}
use Rattle.std.proofs.Common.{subst}
use Rattle.std.proofs.lemmas.List.{take_all}
use Rattle.jpa_rows.specs.declared.rows.row.Field.{Field}
use Rattle.jpa_rows.specs.rows.Spellings.{Finds, SpellsField, SpellsFields}
use Rattle.jpa_rows.proofs.rows.Fields.{fields_found, none_with}
use Rattle.jpa_rows.proofs.rows.read.read_fields.Goals as goal

pub returns-in-None-clause-spelled : goal.returns-in-None-clause-spelled
returns-in-None-clause-spelled c =
    let cell = c.cell-item.result in
    none_with c.args.table.now c.args.cells.now c.loop-cell.cell-index cell cell c.loop-cell-test.true c.cell-item.is
    (subst (λ (o : Option Field). Finds (SpellsField c.args.table.now cell) o) c.in-None.is c.in_ok-read_field.ensures.spelled)

pub returns-clause-spelled : goal.returns-clause-spelled
returns-clause-spelled c =
    fields_found c.args.table.now c.args.cells.now c.loop-cell.row
    (subst (λ (cells : List (ℤ × List ℕ)). SpellsFields c.args.table.now cells c.loop-cell.row) (take_all c.loop-cell.cell-index c.args.cells.now c.loop-cell-test.false) c.loop-cell.invariant)
