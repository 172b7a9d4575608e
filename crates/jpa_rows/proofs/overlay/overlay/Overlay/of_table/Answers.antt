use Rattle.std.specs.Prelude.{◌==◌}
use Rattle.std.proofs.Common.{sym, ap, subst, ◌∙◌, rules, T}
use Rattle.std.proofs.lemmas.List.{take_rest}
use Rattle.std.proofs.lemmas.List.Sorted.{IsPartitionedBy-ltb, IsPartitionedBy-leb}
use Rattle.std.specs.FinMap.Entries.{is_sorted, where_key}
use Rattle.jpa_value.specs.Value.{identity_cmp}
use Rattle.jpa_stored.proofs.objects.Found.{computes}
use Rattle.jpa_rows.proofs.rows.Splits.{rest_rises}
use Rattle.jpa_rows.proofs.overlay.Splits.{front_rises}
use Rattle.jpa_rows.proofs.overlay.Merged.{within_table, tables_rise, is_before_table, is_up_to_table}
use Rattle.jpa_rows.proofs.overlay.overlay.Overlay.of_table.Goals as goal

pub returns-clause-table : goal.returns-clause-table
returns-clause-table c =
    let cs = c.as_slice-all.result.now in
    let t = c.args.table in
    let k = c.partition_point-before.result in
    let sorted = subst (λ es. T (is_sorted identity_cmp es)) (sym c.as_slice-all.ensures.value) c.self.invariant in
    let from = take_rest cs k in
    let rest = subst (λ es. T (is_sorted identity_cmp es)) (sym from) (rest_rises identity_cmp cs k sorted) in
    let first = c.partition_point-before.ensures.partitioned (is_before_table t) (computes (is_before_table t) (λ a r g called. (search rules, search rules)))
    (IsPartitionedBy-ltb (λ e. (e.0).table) cs t (tables_rise cs sorted)) in
    let second = c.partition_point-within.ensures.partitioned (is_up_to_table t) (computes (is_up_to_table t) (λ a r g called. (search rules, search rules)))
    (IsPartitionedBy-leb (λ e. (e.0).table) _ t (tables_rise _ rest)) in
    within_table cs _ t k c.partition_point-within.result from first second ∙ ap (where_key identity_cmp (λ id. id.table == t)) (c.as_slice-all.ensures.value ∙ c.self.view_is)

pub returns-clause-rising : goal.returns-clause-rising
returns-clause-rising c =
    let cs = c.as_slice-all.result.now in
    let k = c.partition_point-before.result in
    let sorted = subst (λ es. T (is_sorted identity_cmp es)) (sym c.as_slice-all.ensures.value) c.self.invariant in
    let rest = subst (λ es. T (is_sorted identity_cmp es)) (sym (take_rest cs k)) (rest_rises identity_cmp cs k sorted) in
    front_rises identity_cmp _ c.partition_point-within.result rest
