use Rattle.std.specs.Prelude.{◌≡◌, ◌+◌, Option, Some, T, All, length}
use Rattle.std.proofs.Common.{rules, sym, ap, subst, ◌∙◌, get_or, arith}
use Rattle.std.proofs.lemmas.List.{take_all}
use Rattle.std.proofs.lemmas.List.Elements.{All-push}
use Rattle.std.specs.FinMap.{find, is_sorted}
use Rattle.jpa_value.specs.Value.{identity_cmp}
use Rattle.jpa_rows.specs.declared.rows.row.RowChange.{RowChange}
use Rattle.jpa_rows.specs.rows.Rows.{RowId, Row, entry_of}
use Rattle.jpa_rows.specs.laws.Changes.{AreDifference}
use Rattle.jpa_rows.specs.overlay.Overlay.{Changes, rows_under}
use Rattle.jpa_rows.specs.overlay.Same.{same_row}
use Rattle.jpa_rows.proofs.overlay.Difference.{differing, turned_more, turned_same, stands, are_difference, same_seen, rises_more, rises_same, all_rise}
use Rattle.jpa_rows.proofs.overlay.Statements.{row_more, rows_within}
use Rattle.jpa_rows.proofs.rows.Looks.{done, looks_then, looks_told}
use Rattle.jpa_rows.proofs.overlay.overlay.Overlay.changes.Goals as goal
use Rattle.jpa_rows.proofs.overlay.overlay.Overlay.changes.Goals.{then-not-is_same+in_ok-try_copy+in_ok-copy_row+in_ok-push, else-not-is_same}

pub loop-entry-preserved : goal.loop-entry-preserved
loop-entry-preserved g c =
    let store = g.R.RowReader in
    let items = c.as_slice-entry-items.result.now in
    let cs_is = c.as_slice-entry-items.ensures.value ∙ c.self.view_is in
    let sorted = subst (λ es. T (is_sorted identity_cmp es)) (sym c.as_slice-entry-items.ensures.value) c.self.invariant in
    let Among : RowChange → Type 0 = λ change. find identity_cmp change.id c.args.self.now ≡ Some change.row in
    let FoundIn : Changes → RowId × Option Row → Type 0 = λ cs z. find identity_cmp z.0 cs ≡ Some z.1 in
    let i = c.loop-entry.entry-index in
    let entry : RowId × Option Row = c.entry-item.result in
    let e_is : c.get.result.now ≡ entry = c.get.ensures in
    record {
      looks = looks_then store done c.args.source.now c.loop-entry.source c.get-in-loop-entry.new.self c.loop-entry.invariant.looks
          (looks_told store c.get-in-loop-entry.result done c.loop-entry.source c.get-in-loop-entry.new.self c.get-in-loop-entry.ensures.looks c.in_ok-there.ensures.looks.told);
      economy = row_more store c.loop-entry.entry-index _ _ _ c.loop-entry.invariant.economy c.get-in-loop-entry.ensures.economy;
      real = λ clean rows holds.
          let so_far = c.loop-entry.invariant.real (c.get-in-loop-entry.ensures.looks.was_clean clean) rows holds in
          let below = c.in_ok-there.ensures.ok clean rows (c.loop-entry.invariant.looks.kept rows holds) in
          let test : c.is_same.result ≡ same_row entry.1 (find identity_cmp entry.0 rows) =
          c.is_same.ensures ∙ ap (same_row c.get.result.now.1) below ∙ ap (λ (z : RowId × Option Row). same_row z.1 (find identity_cmp z.0 rows)) e_is in
          elim c.if-not-is_same.branch [
            | then-not-is_same+in_ok-try_copy+in_ok-copy_row+in_ok-push w ↦
                let change : RowChange = record { id = w.in_ok-try_copy.field-0; row = w.in_ok-copy_row.field-0 } in
                let change_is : entry_of change ≡ entry = (λ j. (w.in_ok-try_copy.ensures.equal j, w.in_ok-copy_row.ensures.equal j)) ∙ e_is in
                turned_more rows items i entry c.loop-entry-test.true c.entry-item.is c.loop-entry.changes _ c.is_same.result test so_far
                w.if-not-is_same.true change change_is (w.changes-is ∙ w.in_ok-push.ensures.ok)
            | else-not-is_same w ↦ turned_same rows items i entry c.loop-entry-test.true c.entry-item.is c.loop-entry.changes _ c.is_same.result test so_far w.if-not-is_same.false w.changes-is
          ];
      rising =
          elim c.if-not-is_same.branch [
            | then-not-is_same+in_ok-try_copy+in_ok-copy_row+in_ok-push w ↦
                let change : RowChange = record { id = w.in_ok-try_copy.field-0; row = w.in_ok-copy_row.field-0 } in
                let change_is : entry_of change ≡ entry = (λ j. (w.in_ok-try_copy.ensures.equal j, w.in_ok-copy_row.ensures.equal j)) ∙ e_is in
                rises_more items i entry c.loop-entry-test.true c.entry-item.is c.loop-entry.changes _ c.loop-entry.invariant.rising change change_is (w.changes-is ∙ w.in_ok-push.ensures.ok)
            | else-not-is_same w ↦ rises_same items i entry c.loop-entry-test.true c.entry-item.is c.loop-entry.changes _ c.loop-entry.invariant.rising w.changes-is
          ];
      among =
          elim c.if-not-is_same.branch [
            | then-not-is_same+in_ok-try_copy+in_ok-copy_row+in_ok-push w ↦
                let change : RowChange = record { id = w.in_ok-try_copy.field-0; row = w.in_ok-copy_row.field-0 } in
                let change_is : entry_of change ≡ entry = (λ j. (w.in_ok-try_copy.ensures.equal j, w.in_ok-copy_row.ensures.equal j)) ∙ e_is in
                let placed : get_or items i entry ≡ entry_of change = sym (change_is ∙ c.entry-item.is) in
                let found = subst (λ cs. FoundIn cs (entry_of change)) cs_is (subst (FoundIn items) placed (stands items i entry sorted c.loop-entry-test.true)) in
                subst (All Among) (sym (w.changes-is ∙ w.in_ok-push.ensures.ok)) (All-push Among c.loop-entry.changes change c.loop-entry.invariant.among found)
            | else-not-is_same w ↦ subst (All Among) (sym w.changes-is) c.loop-entry.invariant.among
          ];
    }

pub returns-clause-difference : goal.returns-clause-difference
returns-clause-difference g c = λ clean rows holds.
    let items = c.as_slice-entry-items.result.now in
    let sorted = subst (λ es. T (is_sorted identity_cmp es)) (sym c.as_slice-entry-items.ensures.value) c.self.invariant in
    let all = c.loop-entry.invariant.real clean rows holds ∙ ap (differing rows) (take_all c.loop-entry.entry-index items c.loop-entry-test.false) in
    subst (AreDifference identity_cmp rows) (sym all) (are_difference rows items sorted)

pub returns-clause-seen : goal.returns-clause-seen
returns-clause-seen g c = λ clean rows rise holds.
    let items = c.as_slice-entry-items.result.now in
    let sorted = subst (λ es. T (is_sorted identity_cmp es)) (sym c.as_slice-entry-items.ensures.value) c.self.invariant in
    let all = c.loop-entry.invariant.real clean rows holds ∙ ap (differing rows) (take_all c.loop-entry.entry-index items c.loop-entry-test.false) in
    ap (λ cs. rows_under cs rows) all ∙ same_seen rows items rise sorted ∙ ap (λ cs. rows_under cs rows) (c.as_slice-entry-items.ensures.value ∙ c.self.view_is)

pub returns-clause-among : goal.returns-clause-among
returns-clause-among g c = record {
  rising = all_rise c.as_slice-entry-items.result.now c.loop-entry.entry-index c.loop-entry.changes c.loop-entry-test.false c.loop-entry.invariant.rising;
  among = search rules;
}

pub returns-in_err-there-clause-looks : goal.returns-in_err-there-clause-looks
returns-in_err-there-clause-looks g c =
    looks_then g.R.RowReader c.from_residual.result c.args.source.now c.loop-entry.source c.get-in-loop-entry.new.self c.loop-entry.invariant.looks
    (looks_told g.R.RowReader c.get-in-loop-entry.result c.from_residual.result c.loop-entry.source c.get-in-loop-entry.new.self c.get-in-loop-entry.ensures.looks (search rules))

pub returns-in_err-there-clause-economy : goal.returns-in_err-there-clause-economy
returns-in_err-there-clause-economy g c =
    let many : length c.as_slice-entry-items.result.now ≡ length c.args.self.now = ap length (c.as_slice-entry-items.ensures.value ∙ c.self.view_is) in
    rows_within g.R.RowReader (c.loop-entry.entry-index + 1) (length c.args.self.now) _ _ (omega (arith, many, c.loop-entry-test.true))
    (row_more g.R.RowReader c.loop-entry.entry-index _ _ _ c.loop-entry.invariant.economy c.get-in-loop-entry.ensures.economy)

pub returns-in_err-try_copy-clause-looks : goal.returns-in_err-try_copy-clause-looks
returns-in_err-try_copy-clause-looks g c =
    looks_then g.R.RowReader c.from_residual-in_err-try_copy.result c.args.source.now c.loop-entry.source c.get-in-loop-entry.new.self c.loop-entry.invariant.looks
    (looks_told g.R.RowReader c.get-in-loop-entry.result c.from_residual-in_err-try_copy.result c.loop-entry.source c.get-in-loop-entry.new.self c.get-in-loop-entry.ensures.looks (search rules))

pub returns-in_err-try_copy-clause-economy : goal.returns-in_err-try_copy-clause-economy
returns-in_err-try_copy-clause-economy g c =
    let many : length c.as_slice-entry-items.result.now ≡ length c.args.self.now = ap length (c.as_slice-entry-items.ensures.value ∙ c.self.view_is) in
    rows_within g.R.RowReader (c.loop-entry.entry-index + 1) (length c.args.self.now) _ _ (omega (arith, many, c.loop-entry-test.true))
    (row_more g.R.RowReader c.loop-entry.entry-index _ _ _ c.loop-entry.invariant.economy c.get-in-loop-entry.ensures.economy)

pub returns-in_err-copy_row-clause-looks : goal.returns-in_err-copy_row-clause-looks
returns-in_err-copy_row-clause-looks g c =
    looks_then g.R.RowReader c.from_residual-in_err-copy_row.result c.args.source.now c.loop-entry.source c.get-in-loop-entry.new.self c.loop-entry.invariant.looks
    (looks_told g.R.RowReader c.get-in-loop-entry.result c.from_residual-in_err-copy_row.result c.loop-entry.source c.get-in-loop-entry.new.self c.get-in-loop-entry.ensures.looks (search rules))

pub returns-in_err-copy_row-clause-economy : goal.returns-in_err-copy_row-clause-economy
returns-in_err-copy_row-clause-economy g c =
    let many : length c.as_slice-entry-items.result.now ≡ length c.args.self.now = ap length (c.as_slice-entry-items.ensures.value ∙ c.self.view_is) in
    rows_within g.R.RowReader (c.loop-entry.entry-index + 1) (length c.args.self.now) _ _ (omega (arith, many, c.loop-entry-test.true))
    (row_more g.R.RowReader c.loop-entry.entry-index _ _ _ c.loop-entry.invariant.economy c.get-in-loop-entry.ensures.economy)

pub returns-in_err-push-clause-looks : goal.returns-in_err-push-clause-looks
returns-in_err-push-clause-looks g c =
    looks_then g.R.RowReader c.from_residual-in_err-push.result c.args.source.now c.loop-entry.source c.get-in-loop-entry.new.self c.loop-entry.invariant.looks
    (looks_told g.R.RowReader c.get-in-loop-entry.result c.from_residual-in_err-push.result c.loop-entry.source c.get-in-loop-entry.new.self c.get-in-loop-entry.ensures.looks (search rules))

pub returns-in_err-push-clause-economy : goal.returns-in_err-push-clause-economy
returns-in_err-push-clause-economy g c =
    let many : length c.as_slice-entry-items.result.now ≡ length c.args.self.now = ap length (c.as_slice-entry-items.ensures.value ∙ c.self.view_is) in
    rows_within g.R.RowReader (c.loop-entry.entry-index + 1) (length c.args.self.now) _ _ (omega (arith, many, c.loop-entry-test.true))
    (row_more g.R.RowReader c.loop-entry.entry-index _ _ _ c.loop-entry.invariant.economy c.get-in-loop-entry.ensures.economy)

pub returns-clause-looks : goal.returns-clause-looks
returns-clause-looks g c = looks_told g.R.RowReader done _ c.args.source.now c.loop-entry.source c.loop-entry.invariant.looks c.loop-entry.invariant.looks.told

pub returns-clause-economy : goal.returns-clause-economy
returns-clause-economy g c =
    let many : length c.as_slice-entry-items.result.now ≡ length c.args.self.now = ap length (c.as_slice-entry-items.ensures.value ∙ c.self.view_is) in
    let ended = c.loop-entry.auto.entry-index-end in
    rows_within g.R.RowReader c.loop-entry.entry-index (length c.args.self.now) _ _ (omega (arith, many, ended)) c.loop-entry.invariant.economy
