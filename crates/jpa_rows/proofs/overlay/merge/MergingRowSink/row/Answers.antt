use Rattle.std.specs.Prelude.{[], ◌++◌, T}
use Rattle.std.proofs.Common.{refl, sym, ap, subst, ◌∙◌, take, drop}
use Rattle.std.proofs.lemmas.List.{take_rest}
use Rattle.std.specs.FinMap.{is_sorted}
use Rattle.jpa_value.specs.Value.{identity_cmp}
use Rattle.jpa_rows.specs.laws.Handing.{Hands}
use Rattle.jpa_rows.proofs.rows.Splits.{rest_rises}
use Rattle.jpa_rows.specs.rows.Rows.{Rows}
use Rattle.jpa_rows.specs.overlay.Overlay.{Changes, rows_put, rows_under, row_unless, stands_first}
use Rattle.jpa_rows.specs.overlay.Merging.{IsMemory}
use Rattle.jpa_rows.proofs.overlay.Merged.{merged_row}
use Rattle.jpa_rows.proofs.overlay.merge.MergingRowSink.row.Goals as goal

pub returns-clause-takes : goal.returns-clause-takes
returns-clause-takes g c =
    let left : Changes = c.args.self.now.left.now in
    let id = c.args.id in
    let row = c.args.row in
    let k = c.count_before-before.result in
    let these : Changes → Rows = λ rest. rows_put (take k left) ++ row_unless (stands_first id rest) id row in (
      refl,
      record {
        these = these (drop k left);
        handed = subst (λ (rest : Changes). Hands g.K.RowSink.takes IsMemory c.args.self.now.sink.now (these rest) c.hand_next.result c.hand_next.new.sink) (take_rest left k) c.hand_next.ensures.handed;
        merged = λ sorted rows rise.
            let parts = c.count_before-before.ensures.parted sorted in
            sym (ap (λ cs. these (drop k left) ++ rows_under cs rows) (take_rest left k) ∙ merged_row left k id row [] (these (drop k left)) sorted parts.0 parts.1 refl rows rise);
        sorted = λ sorted. subst (λ cs. T (is_sorted identity_cmp cs)) (sym (take_rest left k)) (rest_rises identity_cmp left k sorted);
      },
    )
