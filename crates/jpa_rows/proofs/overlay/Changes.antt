-- What a change of the entries at the place of an id makes of the changes, and what is then seen.
use Rattle.std.specs.Prelude.{◌≡◌, ℕ, T, Option, Some, None, Result, Ok, Err, IfOk, OnOk}
use Rattle.std.proofs.Common.{sym, ap, subst, ◌∙◌, set}
use Rattle.std.specs.List.{insert}
use Rattle.std.specs.FinMap.{find}
use Rattle.std.specs.FinMap.Entries.{is_sorted, is_sorted-put}
use Rattle.jpa_value.specs.Value.{identity_cmp}
use Rattle.jpa_value.proofs.Orders.{identity_total, identity_exact}
use Rattle.jpa_stored.specs.objects.Places.{IsAt, IsGap}
use Rattle.jpa_stored.proofs.objects.Entries.{put_at, put_gap}
use Rattle.jpa_rows.specs.rows.Rows.{RowId, Row, Rows, AreRising}
use Rattle.jpa_rows.specs.laws.Orders.{IsLinearOrder}
use Rattle.jpa_rows.specs.laws.Changes.{over}
use Rattle.jpa_rows.proofs.laws.Overlay.{seen_put, found_seen}
use Rattle.jpa_rows.specs.overlay.Overlay.{Changes, with_change, with_row, rows_under}

pub ids : IsLinearOrder identity_cmp
ids = record { total = identity_total; exact = identity_exact }

module _ (cs : Changes) (sorted : T (is_sorted identity_cmp cs)) (id : RowId) (at : ℕ) where
  pub replaced : (row : Option Row) (entry : RowId × Option Row) → IsAt identity_cmp cs id at → entry ≡ (id, row) → set cs at entry ≡ with_change id row cs
  replaced row entry found e = ap (set cs at) e ∙ sym (put_at identity_total identity_exact cs id row at sorted found)

  pub inserted : (row : Option Row) (entry : RowId × Option Row) → IsGap identity_cmp cs id at → entry ≡ (id, row) → insert cs at entry ≡ with_change id row cs
  inserted row entry gap e = ap (insert cs at) e ∙ sym (put_gap identity_total cs id row at gap)

pub rises_with : (cs : Changes) → T (is_sorted identity_cmp cs) → (id : RowId) (row : Option Row) (new : Changes) → new ≡ with_change id row cs → T (is_sorted identity_cmp new)
rises_with cs sorted id row new e = subst (λ s. T (is_sorted identity_cmp s)) (sym e) (is_sorted-put identity_cmp identity_total id row cs sorted)

pub seen_with : (cs new : Changes) (id : RowId) (row : Option Row) → new ≡ with_change id row cs → (base : Rows) → AreRising base → rows_under new base ≡ with_row id row (rows_under cs base)
seen_with cs new id row e base rise = ap (λ ds. rows_under ds base) e ∙ seen_put ids base rise cs id row

-- ---- what is seen under an id

pub found_changed : (cs : Changes) (base : Rows) (id : RowId) (row : Option Row) → find identity_cmp id cs ≡ Some row → find identity_cmp id (rows_under cs base) ≡ row
found_changed cs base id row e = found_seen ids id base cs ∙ ap (λ c. over c (find identity_cmp id base)) e

pub found_below : (cs : Changes) (base : Rows) (id : RowId) → find identity_cmp id cs ≡ None → find identity_cmp id (rows_under cs base) ≡ find identity_cmp id base
found_below cs base id e = found_seen ids id base cs ∙ ap (λ c. over c (find identity_cmp id base)) e

-- ---- what calls answer

pub seen_ok : {A E : Type 0} (r : Result A E) (cs new : Changes) (id : RowId) (row : Option Row) → OnOk r (new ≡ with_change id row cs)
    → OnOk r ((base : Rows) → AreRising base → rows_under new base ≡ with_row id row (rows_under cs base))
seen_ok (Ok a) cs new id row e = seen_with cs new id row e
seen_ok (Err e) cs new id row h = tt

pub got_changed : {E : Type 0} (r : Result (Option Row) E) (cs : Changes) (id : RowId) (there : Option Row) (Holds : Rows → Type 0) → find identity_cmp id cs ≡ Some there
    → IfOk r (λ copy. copy ≡ there) → IfOk r (λ row. (rows : Rows) → Holds rows → row ≡ find identity_cmp id (rows_under cs rows))
got_changed (Ok copy) cs id there Holds found e = λ rows h. e ∙ sym (found_changed cs rows id there found)
got_changed (Err e) cs id there Holds found h = tt

pub got_change : {E : Type 0} (r : Result (Option Row) E) (cs : Changes) (id : RowId) (there : Option Row) → find identity_cmp id cs ≡ Some there → IfOk r (λ copy. copy ≡ there)
    → IfOk r (λ row. find identity_cmp id cs ≡ Some row)
got_change (Ok copy) cs id there found e = found ∙ ap Some (sym e)
got_change (Err e) cs id there found h = tt

pub got_below : {E : Type 0} (r : Result (Option Row) E) (cs : Changes) (id : RowId) (Holds : Rows → Type 0) → find identity_cmp id cs ≡ None
    → IfOk r (λ row. (rows : Rows) → Holds rows → row ≡ find identity_cmp id rows) → IfOk r (λ row. (rows : Rows) → Holds rows → row ≡ find identity_cmp id (rows_under cs rows))
got_below (Ok row) cs id Holds none is = λ rows h. is rows h ∙ sym (found_below cs rows id none)
got_below (Err e) cs id Holds none h = tt
