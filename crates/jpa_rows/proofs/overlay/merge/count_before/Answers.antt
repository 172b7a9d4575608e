use Rattle.std.specs.Prelude.{Bool, Option}
use Rattle.std.proofs.Common.{rules}
use Rattle.std.specs.Ordering.{is_lt}
use Rattle.jpa_value.specs.Value.{identity_cmp}
use Rattle.jpa_value.proofs.Orders.{identity_total}
use Rattle.jpa_stored.proofs.objects.Found.{computes}
use Rattle.jpa_rows.specs.rows.Rows.{RowId, Row}
use Rattle.jpa_rows.proofs.rows.Splits.{front_passes, rest_fails, parted}
use Rattle.jpa_rows.proofs.overlay.merge.count_before.Goals as goal

pub returns-clause-parted : goal.returns-clause-parted
returns-clause-parted c = λ sorted.
    let left = c.args.changes.now in
    let id = c.args.id.now in
    let k = c.partition_point.result in
    let p : RowId × Option Row → Bool = λ e. is_lt (identity_cmp e.0 id) in
    let parts = c.partition_point.ensures.partitioned p (computes p (λ a r g called. (search rules, search rules))) (parted identity_total left sorted id) in
    (front_passes p left k parts.0, rest_fails p left k parts.1)
