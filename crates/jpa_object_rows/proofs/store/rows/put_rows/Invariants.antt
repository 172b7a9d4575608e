use Rattle.std.proofs.Common.{◌≡◌, vec_len}
use Rattle.jpa_object_rows.specs.store.Shown.{with_puts}
use Rattle.jpa_object_rows.proofs.store.rows.put_rows.Given as goal

abbrev pub invariant-loop-id : goal.invariant-loop-id
invariant-loop-id l = with_puts l.left.items l.overlay ≡ with_puts l.fn.rows l.fn.overlay

abbrev pub decreases-loop-id : goal.decreases-loop-id
decreases-loop-id l = vec_len l.left
