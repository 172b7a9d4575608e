-- Cells that a plan leaves as they are.
use Rattle.std.specs.Prelude.{◌≡◌, ℕ, suc, ◌==◌, Bool, true, false, not, cond, ◌||◌, List, [], ◌∷◌, ◌++◌, length}
use Rattle.std.proofs.Common.{refl, sym, ap, ◌∙◌, append-nil, arith}
use Rattle.std.specs.List.{flat_map, list_any}
use Rattle.std.specs.Ordering.{int_eq}
use Rattle.std.proofs.lemmas.Bool.Decides.{Decides-int_eq, nat_tests}
use Rattle.std.proofs.lemmas.List.Sorted.{length_permutation}
use Rattle.jpa_rows.proofs.laws.Facts.{true_false}
use Rattle.jpa_cells.specs.declared.meaning.Cell.{Cell}
use Rattle.jpa_cells.specs.meaning.Tables.{placed}
use Rattle.jpa_cells.proofs.meaning.Placing.{placed_rising}
use Rattle.jpa_opening.proofs.migration.Sorting.{placed_permuted}
use Rattle.jpa_opening.specs.declared.migration.plan.Plan.{Plan}
use Rattle.jpa_opening.specs.migration.Migration.{readable}
use Rattle.jpa_opening.specs.migration.Plans.{has_number, column_by, cell_by, touches, is_taken, defaults_by, loose_by, cells_by}
use Rattle.jpa_opening.specs.migration.Orderly.{IsOrderly}

pub or_first : (a b : Bool) → (a || b) ≡ false → a ≡ false
or_first true b h = h
or_first false b h = refl

pub or_second : (a b : Bool) → (a || b) ≡ false → b ≡ false
or_second true b h = cc
or_second false b h = h

true_from_not : (b : Bool) → not b ≡ false → b ≡ true
true_from_not true h = refl
true_from_not false h = cc

pub stays : (plan : Plan) (cells : List Cell) → list_any (touches plan) cells ≡ false → flat_map (cell_by plan) cells ≡ cells
stays plan [] h = refl
stays plan (c ∷ cells) h =
    let here = or_first (touches plan c) (list_any (touches plan) cells) h in
    let rest = stays plan cells (or_second (touches plan c) (list_any (touches plan) cells) h) in
    let kept = or_first (has_number plan.dropped c.column) (not (int_eq (column_by plan.moves c.column) c.column)) here in
    let column : column_by plan.moves c.column ≡ c.column =
    (Decides-int_eq (column_by plan.moves c.column) c.column).0 (true_from_not _ (or_second (has_number plan.dropped c.column) (not (int_eq (column_by plan.moves c.column) c.column)) here)) in
    λ i. cond (kept i) [] (record { column = column i; value = c.value } ∷ []) ++ rest i

-- ---- the cells of a row, by their cases

module _ (plan : Plan) (cells : List Cell) where
  pub of_taken : is_taken plan cells ≡ true → cells_by plan cells ≡ readable []
  of_taken h = ap (λ b. readable (cond b [] (placed (loose_by plan cells)))) h

  pub of_none : is_taken plan cells ≡ false → loose_by plan cells ≡ [] → cells_by plan cells ≡ readable []
  of_none h none = λ i. readable (cond (h i) [] (placed (none i)))

  pub of_others : is_taken plan cells ≡ false → readable (placed (loose_by plan cells)) ≡ cells_by plan cells
  of_others h = sym (ap (λ b. readable (cond b [] (placed (loose_by plan cells)))) h)

  pub unchanged : list_any (touches plan) cells ≡ false → defaults_by plan cells ≡ [] → loose_by plan cells ≡ cells
  unchanged untouched none = (λ i. stays plan cells untouched i ++ none i) ∙ append-nil cells

  pub of_same : IsOrderly plan cells → is_taken plan cells ≡ false → list_any (touches plan) cells ≡ false → defaults_by plan cells ≡ [] → readable cells ≡ cells_by plan cells
  of_same orderly h untouched none =
      ap readable (sym (ap placed (unchanged untouched none) ∙ placed_rising cells orderly.rise)) ∙ of_others h

pub some_readable : (cells : List Cell) → (length cells == 0) ≡ false → readable cells ≡ cells
some_readable [] h = cc
some_readable (c ∷ cells) h = refl

pub none_there : {A : Type 0} (xs : List A) → (length xs == 0) ≡ true → xs ≡ []
none_there [] h = refl
none_there (x ∷ xs) h = absurd (true_false (sym h ∙ differ (length xs)))
  where
    differ : (n : ℕ) → (suc n == 0) ≡ false
    differ n = grind (arith, nat_tests)

pub some_placed : (cells : List Cell) → (length cells == 0) ≡ false → readable (placed cells) ≡ placed cells
some_placed cells h = some_readable (placed cells) (ap (λ n. n == 0) (length_permutation cells (placed cells) (placed_permuted cells)) ∙ h)
