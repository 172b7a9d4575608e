use Rattle.std.proofs.Common.{◌≡◌, vec_len}
use Rattle.jpa_object_rows.specs.store.Shown.{with_puts, with_drops}
use Rattle.jpa_object_rows.proofs.store.rows.drop_rows.Given as goal

abbrev pub invariant-loop-id : goal.invariant-loop-id
invariant-loop-id l = record {
  dropped : with_drops l.left.items l.overlay ≡ with_drops l.fn.rows l.fn.overlay;
  noted : with_puts l.left.items l.stood ≡ with_puts l.fn.rows l.fn.stood;
}

abbrev pub decreases-loop-id : goal.decreases-loop-id
decreases-loop-id l = vec_len l.left
