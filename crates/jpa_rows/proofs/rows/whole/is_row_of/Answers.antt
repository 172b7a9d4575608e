use Rattle.jpa_rows.proofs.rows.Judged.{row_of, no_row}
use Rattle.jpa_rows.proofs.rows.whole.is_row_of.Goals as goal

pub returns-then-is_rising : goal.returns-then-is_rising
returns-then-is_rising c =
    row_of c.args.table.now c.as_slice.result.now c.as_slice-then-is_rising.result.now c.args.row.now c.is_rising.result c.are_fields_of.result
    c.is_rising.ensures c.as_slice.ensures c.if-is_rising.true c.are_fields_of.ensures c.as_slice-then-is_rising.ensures

pub returns-else-is_rising : goal.returns-else-is_rising
returns-else-is_rising c =
    no_row c.args.table.now c.as_slice.result.now c.args.row.now c.is_rising.result c.is_rising.ensures c.as_slice.ensures c.if-is_rising.false
