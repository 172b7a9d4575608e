use Rattle.std.specs.Prelude.{Bool, true, false, [], Option, Some, None, is_some, not}
use Rattle.std.proofs.Common.{◌≡◌, refl, sym, ap, subst, ◌∙◌, get_or, T}
use Rattle.std.specs.FinMap.Entries.{is_sorted}
use Rattle.jpa_value.specs.Value.{identity_cmp}
use Rattle.jpa_value.proofs.Orders.{identity_total}
use Rattle.jpa_stored.proofs.objects.Entries.{find_at, find_gap}
use Rattle.jpa_rows.specs.rows.Rows.{Row}
use Rattle.jpa_rows.specs.overlay.Same.{same_row}
use Rattle.jpa_rows.proofs.overlay.Changes.{found_changed, found_below}
use Rattle.jpa_rows.proofs.overlay.overlay.Overlay.puts.Goals as goal

pub returns-in-Ok : goal.returns-in-Ok
returns-in-Ok c =
    let cs = c.args.self.now in
    let id = c.args.id.now in
    let sorted = subst (λ es. T (is_sorted identity_cmp es)) c.self.view_is c.self.invariant in
    let at = c.in-Ok.at in
    let entry = c.index.result.now in
    let there = ap (λ e. Some e.1) (c.get.ensures ∙ c.index.ensures ∙ ap (λ es. get_or es at entry) c.self.view_is) in
    c.is_same.ensures ∙ ap (same_row c.args.row.now) (sym (found_changed cs [] id c.get.result.now.1 (find_at identity_total cs id at entry sorted c.in-Ok.ensures.found ∙ sym there)))

none_same : (row : Option Row) (none : Bool) → is_some row ≡ not none → none ≡ same_row row None
none_same None true e = refl
none_same None false e = e
none_same (Some row) true e = e
none_same (Some row) false e = refl

pub returns-in-Err : goal.returns-in-Err
returns-in-Err c =
    let cs = c.args.self.now in
    let id = c.args.id.now in
    none_same c.args.row.now c.is_none.result c.is_none.ensures ∙ ap (same_row c.args.row.now) (sym (found_below cs [] id (find_gap identity_total cs id c.in-Err.field-0 c.in-Err.ensures.absent)))
