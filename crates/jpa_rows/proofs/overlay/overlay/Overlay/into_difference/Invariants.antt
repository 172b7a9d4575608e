use Rattle.std.proofs.Common.{◌≡◌, ◌++◌, [], map}
use Rattle.jpa_rows.specs.rows.Rows.{entry_of}
use Rattle.jpa_rows.specs.overlay.Overlay.{rows_under}
use Rattle.jpa_rows.proofs.overlay.Difference.{differing}
use Rattle.jpa_rows.proofs.overlay.overlay.Overlay.into_difference.Given as goal

abbrev pub invariant-loop-entry : goal.invariant-loop-entry
invariant-loop-entry l = record {
  rest : l.fn.self ≡ l.yielded ++ l.entry-iterator.rest.items;
  made : map entry_of l.changes ≡ differing (rows_under l.stood []) l.yielded;
}
