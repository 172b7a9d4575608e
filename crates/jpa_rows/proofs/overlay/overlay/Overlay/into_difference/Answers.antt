use Rattle.std.specs.Prelude.{List, ◌++◌, []}
use Rattle.std.proofs.Common.{◌≡◌, sym, ap, subst, ◌∙◌, arith, T, map}
use Rattle.std.proofs.lemmas.List.{append-nil}
use Rattle.std.proofs.Math.ListN.{drop_of_length-le}
use Rattle.std.specs.FinMap.{is_sorted}
use Rattle.jpa_value.specs.Value.{identity_cmp}
use Rattle.jpa_rows.specs.declared.rows.row.RowChange.{RowChange}
use Rattle.jpa_rows.specs.rows.Rows.{entry_of}
use Rattle.jpa_rows.specs.overlay.Overlay.{Changes, rows_under}
use Rattle.jpa_rows.proofs.overlay.Difference.{differing}
use Rattle.jpa_rows.proofs.overlay.Recalled.{recalled_difference, recalled_seen, recalled_rises, recalled_among}
use Rattle.jpa_rows.proofs.overlay.overlay.Overlay.into_difference.Goals as goal

-- none is left, so all were looked at
all : (stood self yielded rest : Changes) (made : List RowChange) → self ≡ yielded ++ rest → rest ≡ [] → map entry_of made ≡ differing (rows_under stood []) yielded → map entry_of made ≡ differing (rows_under stood []) self
all stood self yielded rest made e none m = m ∙ ap (differing (rows_under stood [])) (sym (append-nil yielded) ∙ ap (λ es. yielded ++ es) (sym none) ∙ sym e)

pub returns-clause-difference : goal.returns-clause-difference
returns-clause-difference c =
    let cs = c.args.self in
    let stood = c.args.stood.now in
    let made = c.loop-entry.changes in
    let rest = c.loop-entry.entry-iterator.rest.items in
    let sorted = subst (λ es. T (is_sorted identity_cmp es)) c.self.view_is c.self.invariant in
    let none = c.in-None.ensures.steps in
    let whole = c.loop-entry.entry-iterator.rest.ok in
    let ended : rest ≡ [] = drop_of_length-le rest {i = 0} (omega arith) in
    recalled_difference stood cs sorted made (all stood cs c.loop-entry.yielded rest made c.loop-entry.invariant.rest ended c.loop-entry.invariant.made)

pub returns-clause-seen : goal.returns-clause-seen
returns-clause-seen c = λ rows rise recalls.
    let cs = c.args.self in
    let stood = c.args.stood.now in
    let made = c.loop-entry.changes in
    let rest = c.loop-entry.entry-iterator.rest.items in
    let sorted = subst (λ es. T (is_sorted identity_cmp es)) c.self.view_is c.self.invariant in
    let none = c.in-None.ensures.steps in
    let whole = c.loop-entry.entry-iterator.rest.ok in
    let ended : rest ≡ [] = drop_of_length-le rest {i = 0} (omega arith) in
    recalled_seen stood cs sorted made (all stood cs c.loop-entry.yielded rest made c.loop-entry.invariant.rest ended c.loop-entry.invariant.made) rows recalls rise

pub returns-clause-rising : goal.returns-clause-rising
returns-clause-rising c =
    let cs = c.args.self in
    let stood = c.args.stood.now in
    let made = c.loop-entry.changes in
    let rest = c.loop-entry.entry-iterator.rest.items in
    let sorted = subst (λ es. T (is_sorted identity_cmp es)) c.self.view_is c.self.invariant in
    let none = c.in-None.ensures.steps in
    let whole = c.loop-entry.entry-iterator.rest.ok in
    let ended : rest ≡ [] = drop_of_length-le rest {i = 0} (omega arith) in
    recalled_rises stood cs sorted made (all stood cs c.loop-entry.yielded rest made c.loop-entry.invariant.rest ended c.loop-entry.invariant.made)

pub returns-clause-among : goal.returns-clause-among
returns-clause-among c =
    let cs = c.args.self in
    let stood = c.args.stood.now in
    let made = c.loop-entry.changes in
    let rest = c.loop-entry.entry-iterator.rest.items in
    let sorted = subst (λ es. T (is_sorted identity_cmp es)) c.self.view_is c.self.invariant in
    let none = c.in-None.ensures.steps in
    let whole = c.loop-entry.entry-iterator.rest.ok in
    let ended : rest ≡ [] = drop_of_length-le rest {i = 0} (omega arith) in
    recalled_among stood cs sorted made (all stood cs c.loop-entry.yielded rest made c.loop-entry.invariant.rest ended c.loop-entry.invariant.made)
