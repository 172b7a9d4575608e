use Rattle.std.proofs.Common.{◌≡◌, ◌++◌, map, take, drop, Some, All, T}
use Rattle.std.specs.FinMap.{find, is_sorted}
use Rattle.jpa_value.specs.Value.{identity_cmp}
use Rattle.jpa_rows.specs.rows.Rows.{Rows, entry_of}
use Rattle.jpa_rows.specs.rows.Looks.{LooksOnly, LooksAtRows}
use Rattle.jpa_rows.proofs.rows.Looks.{done}
use Rattle.jpa_rows.proofs.overlay.Difference.{differing}
use Rattle.jpa_rows.proofs.overlay.overlay.Overlay.changes.Given as goal

abbrev pub invariant-loop-entry : goal.invariant-loop-entry
invariant-loop-entry g l = record {
  looks : LooksOnly g.R.RowReader done l.fn.source l.source;
  economy : LooksAtRows g.R.RowReader l.entry-index l.fn.source l.source;
  real : g.R.RowReader.clean l.source → (rows : Rows) → g.R.RowReader.holds l.fn.source rows → map entry_of l.changes ≡ differing rows (take l.entry-index l.entry-items);
  rising : T (is_sorted identity_cmp (map entry_of l.changes ++ drop l.entry-index l.entry-items));
  among : All (λ change. find identity_cmp change.id l.self ≡ Some change.row) l.changes;
}
