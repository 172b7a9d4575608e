use Rattle.std.proofs.Common.{◌≡◌, T, vec_len}
use Rattle.std.specs.FinMap.{is_sorted}
use Rattle.std.specs.Ordering.{nat_cmp}
use Rattle.jpa_rows.specs.laws.Slots.{filled}
use Rattle.jpa_object_rows.specs.meaning.Sets.{placed}
use Rattle.jpa_object_rows.proofs.mapper.Filled.{onto}
use Rattle.jpa_object_rows.proofs.mapper.main_row.row_of_places.Given as goal

abbrev pub invariant-loop-column : goal.invariant-loop-column
invariant-loop-column l = record {
  same : onto l.left.items (placed l.fields.items) ≡ filled nat_cmp l.fn.places;
  rising : T (is_sorted nat_cmp (placed l.fields.items));
}

abbrev pub decreases-loop-column : goal.decreases-loop-column
decreases-loop-column l = vec_len l.left
