use Rattle.std.proofs.Common.{rules, ◌≡◌, slice_index_or}
use Rattle.std.specs.List.{flat_map}
use Rattle.jpa_rows.specs.rows.Faults.{IsStoreCause}
use Rattle.jpa_rows.specs.rows.Rows.{Rows, table_rows}
use Rattle.jpa_rows.specs.overlay.Overlay.{rows_under}
use Rattle.jpa_questions.proofs.row_queries.Handed.{takes_all, takes_more, taken, failed}
use Rattle.jpa_rows.proofs.rows.Looks.{done, looks_then, looks_told}
use Rattle.jpa_questions.proofs.row_queries.Looks.{match_err}
use Rattle.jpa_questions.proofs.row_queries.gathering.rows_seen.Goals as goal

pub returns-in_err-each-clause-rows : goal.returns-in_err-each-clause-rows
returns-in_err-each-clause-rows g c clean rows rise holds =
    let all = c.each.ensures.handed clean rows rise (c.loop-table.invariant.looks.kept rows holds) in
    let part : Rows = table_rows (slice_index_or c.args.numbers.now c.loop-table.table-index 0) (rows_under c.args.overlay.now rows) in
    let e = c.in_err-each.field-0.0 in
    match_err IsStoreCause (λ (found : Rows). found ≡ flat_map (λ n. table_rows n (rows_under c.args.overlay.now rows)) c.args.numbers.now) c.from_residual.result e c.from_residual.ensures.1 (failed c.loop-table.pairs part c.each.result e c.each.new.sink c.in_err-each.was (takes_all c.loop-table.pairs part c.each.result c.each.new.sink all))

pub returns-in_err-each-clause-looks : goal.returns-in_err-each-clause-looks
returns-in_err-each-clause-looks g c =
    looks_then g.R.RowReader c.from_residual.result c.args.source.now c.loop-table.source c.each.new.source c.loop-table.invariant.looks
    (looks_told g.R.RowReader c.each.result c.from_residual.result c.loop-table.source c.each.new.source c.each.ensures.looks (search rules))

pub loop-table-preserved : goal.loop-table-preserved
loop-table-preserved g c = record {
  looks = looks_then g.R.RowReader done c.args.source.now c.loop-table.source c.each.new.source c.loop-table.invariant.looks
      (looks_told g.R.RowReader c.each.result done c.loop-table.source c.each.new.source c.each.ensures.looks c.in_ok-each.ensures.looks.told);
  rows = λ clean rows rise holds.
      let before = c.loop-table.invariant.rows (c.each.ensures.looks.was_clean clean) rows rise holds in
      let part : Rows = table_rows (slice_index_or c.args.numbers.now c.loop-table.table-index 0) (rows_under c.args.overlay.now rows) in
      let all = c.each.ensures.handed clean rows rise (c.loop-table.invariant.looks.kept rows holds) in
      takes_more (λ n. table_rows n (rows_under c.args.overlay.now rows)) c.args.numbers.now c.loop-table.table-index c.loop-table-test.true c.loop-table.pairs c.each.new.sink before
      (taken c.loop-table.pairs part c.each.result c.in_ok-each.field-0 c.each.new.sink c.in_ok-each.was (takes_all c.loop-table.pairs part c.each.result c.each.new.sink all));
}
