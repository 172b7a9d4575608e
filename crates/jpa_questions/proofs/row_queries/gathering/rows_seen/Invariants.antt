use Rattle.std.proofs.Common.{◌≡◌, take}
use Rattle.std.specs.List.{flat_map}
use Rattle.jpa_rows.specs.rows.Rows.{Rows, AreRising, table_rows}
use Rattle.jpa_rows.specs.overlay.Overlay.{rows_under}
use Rattle.jpa_rows.specs.rows.Looks.{LooksOnly}
use Rattle.jpa_rows.proofs.rows.Looks.{done}
use Rattle.jpa_questions.proofs.row_queries.gathering.rows_seen.Given as goal

-- the rows of the first tables, and what looks at them leave
abbrev pub invariant-loop-table : goal.invariant-loop-table
invariant-loop-table g l = record {
  looks : LooksOnly g.R.RowReader done l.fn.source l.source;
  rows : g.R.RowReader.clean l.source → (rows : Rows) → AreRising rows → g.R.RowReader.holds l.fn.source rows → l.pairs ≡ flat_map (λ n. table_rows n (rows_under l.fn.overlay rows)) (take l.table-index l.numbers);
}
