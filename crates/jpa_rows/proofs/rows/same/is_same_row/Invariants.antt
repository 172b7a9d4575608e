use Rattle.std.proofs.Common.{◌≡◌, ◌≤◌, drop, length}
use Rattle.jpa_rows.specs.rows.Same.{same_row}
use Rattle.jpa_rows.proofs.rows.same.is_same_row.Given as goal

abbrev pub invariant-loop-i : goal.invariant-loop-i
invariant-loop-i l = record {
  rest : same_row (drop l.i l.a) (drop l.i l.b) ≡ same_row l.a l.b;
  within : l.i ≤ length l.b;
}
