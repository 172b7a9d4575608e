use Rattle.std.proofs.Common.{rules, Bool, not}
use Rattle.std.specs.Ordering.{is_lt}
use Rattle.jpa_stored.proofs.objects.Found.{computes}
use Rattle.jpql_meaning.specs.plan.Selection.{Row, keys_cmp}
use Rattle.jpql_select.specs.select.Sortings.{sorting_data}
use Rattle.jpql_select.proofs.first.Front.{front_passes, rest_fails}
use Rattle.jpql_select.proofs.first.Rows.{rows_parted, row_inserted}
use Rattle.jpql_select.proofs.first.best.place_of.Goals as goal

pub returns-clause-place : goal.returns-clause-place
returns-clause-place c = λ row e.
    let keys = c.args.keys.now in
    let rows = c.args.rows.now in
    let ds = sorting_data c.args.sorting.now in
    let k = c.partition_point.result in
    let p : Row → Bool = λ x. not (is_lt (keys_cmp keys ds x.keys)) in
    let parts = c.partition_point.ensures.partitioned p (computes p (λ a r g called. (search rules, search rules))) (rows_parted keys rows ds c.requires.sorted) in
    row_inserted keys rows k ds row e (front_passes p rows k parts.0) (rest_fails p rows k parts.1)
