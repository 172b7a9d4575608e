use Rattle.std.specs.Prelude.{◌≡◌, ◌==◌, true, false, List, ◌++◌, length}
use Rattle.std.proofs.Common.{sym, ap, subst, ◌∙◌, Vec, Global}
use Rattle.std.specs.List.{list_any}
use Rattle.jpa_cells.specs.declared.meaning.Cell.{Cell}
use Rattle.jpa_cells.specs.meaning.Tables.{placed, ColumnsDiffer}
use Rattle.jpa_opening.specs.migration.Plans.{is_taken, defaults_by, loose_by, touches}
use Rattle.jpa_opening.proofs.migration.Untouched.{of_others, of_same, unchanged, some_readable, some_placed, none_there}
use Rattle.jpa_opening.proofs.migration.row.cells_by.Goals as goal
use Rattle.jpa_opening.proofs.migration.row.cells_by.Goals.{then-touched, then-touched-via-then-touched, then-touched-via-else-touched+then-filled, else-touched+else-filled}

pub returns-clause-cells : goal.returns-clause-cells
returns-clause-cells c orderly =
    let plan = c.args.plan.now in
    let cells = c.args.cells.items in
    let other : is_taken plan cells ≡ false = ap (is_taken plan) (sym c.as_slice-2.ensures.value) ∙ sym c.is_taken.ensures ∙ c.if-is_taken.false in
    let defaults : c.in_ok-defaults.defaults.items ≡ defaults_by plan cells = c.in_ok-defaults.ensures.ok ∙ ap (defaults_by plan) c.as_slice-3.ensures.value in
    let kept = c.in_ok-after.ensures.cells in
    let loose : c.append.new.cells.items ≡ loose_by plan cells = c.in_ok-append.ensures.ok ∙ λ i. kept i ++ defaults i in
    let some : (length (loose_by plan cells) == 0) ≡ false =
    ap (λ (l : List Cell). length l == 0) (sym (c.as_slice-5.ensures.value ∙ loose)) ∙ sym c.is_empty.ensures ∙ c.if-is_empty.false in
    elim c.if-touched.branch [
      | then-touched w ↦
          let differ = subst ColumnsDiffer (sym loose) (orderly.apart other) in
          ap (λ (v : Vec Cell Global). v.items) w.after-is ∙ w.put_in_order.ensures differ ∙ ap placed loose ∙ sym (some_placed (loose_by plan cells) some) ∙ of_others plan cells other
      | else-touched+else-filled w ↦
          let untouched : list_any (touches plan) cells ≡ false = sym c.in_ok-after.ensures.touched ∙ w.if-touched.false in
          let found : (length (defaults_by plan cells) == 0) ≡ true = ap (λ (l : List Cell). length l == 0) (sym (c.as_slice-4.ensures.value ∙ defaults)) ∙ sym c.is_empty-filled.ensures ∙ w.if-filled.false in
          let none = none_there (defaults_by plan cells) found in
          let same = unchanged plan cells untouched none in
          ap (λ (v : Vec Cell Global). v.items) w.after-is ∙ loose ∙ same
          ∙ sym (some_readable cells (ap (λ (l : List Cell). length l == 0) (sym same) ∙ some)) ∙ of_same plan cells orderly other untouched none
    ]
