-- Cells of different columns have one order.
use Rattle.std.specs.Prelude.{◌≡◌, ◌≢◌, false, List, [], ◌∷◌, ◌++◌, fold}
use Rattle.std.proofs.Common.{refl, sym, subst, inl, inr, append-nil, IsPermutation, Less}
use Rattle.std.specs.List.Sorted.{IsSorted}
use Rattle.std.specs.Ordering.{is_eq}
use Rattle.std.specs.FinMap.{int_cmp-IsAntisymmetric}
use Rattle.std.proofs.lemmas.Bool.{cases_Bool}
use Rattle.std.proofs.lemmas.List.Sorted.{IsPermutation-refl, IsPermutation-sym, IsPermutation-trans, IsPermutation-middle}
use Rattle.sqlite.specs.Tree.{IsAscending}
use Rattle.sqlite_keyed.specs.Lists.{insert_sorted, sort_by}
use Rattle.sqlite_keyed.proofs.ListLemmas.{ascending_weaker}
use Rattle.sqlite_keyed.proofs.SortLemmas.{IsPermutation-sort_by, sorted_unique}
use Rattle.jpa_cells.specs.declared.meaning.Cell.{Cell}
use Rattle.jpa_cells.specs.meaning.Tables.{cell_cmp, placed, ColumnsDiffer}
use Rattle.jpa_cells.proofs.meaning.RowMeaning.{tie}
use Rattle.jpa_cells.proofs.meaning.Contents.{cell_cmp_total, ties_permuted}
use Rattle.jpa_cells.proofs.meaning.Sorts.{rises-sort}

abbrev turned_onto : List Cell → List Cell → List Cell
turned_onto [] after = after
turned_onto (c ∷ cells) after = turned_onto cells (c ∷ after)

put_in_turn : (cells after : List Cell) → fold (λ sorted cell. insert_sorted cell_cmp cell sorted) (sort_by cell_cmp after) cells ≡ sort_by cell_cmp (turned_onto cells after)
put_in_turn [] after = refl
put_in_turn (c ∷ cells) after = put_in_turn cells (c ∷ after)

turned_permuted : (cells after : List Cell) → IsPermutation (cells ++ after) (turned_onto cells after)
turned_permuted [] after = IsPermutation-refl after
turned_permuted (c ∷ cells) after =
    IsPermutation-trans (c ∷ (cells ++ after)) (cells ++ c ∷ after) (turned_onto cells (c ∷ after))
    (IsPermutation-sym (cells ++ c ∷ after) (c ∷ (cells ++ after)) (IsPermutation-middle cells c after)) (turned_permuted cells (c ∷ after))

permuted : (cells : List Cell) → IsPermutation cells (turned_onto cells [])
permuted cells = subst (λ l. IsPermutation l (turned_onto cells [])) (append-nil cells) (turned_permuted cells [])

no_tie : (a b : Cell) → a.column ≢ b.column → is_eq (cell_cmp a b) ≡ false
no_tie a b differ = elim (cases_Bool (is_eq (cell_cmp a b))) [ inl e ↦ absurd (differ (int_cmp-IsAntisymmetric a.column b.column (tie _ e))) | inr e ↦ e ]

-- they are the same cells
pub placed_permuted : (cells : List Cell) → IsPermutation cells (placed cells)
placed_permuted cells =
    subst (IsPermutation cells) (sym (put_in_turn cells []))
    (IsPermutation-trans cells (turned_onto cells []) _ (permuted cells) (IsPermutation-sym _ (turned_onto cells []) (IsPermutation-sort_by cell_cmp cell_cmp_total (turned_onto cells []))))

-- in rising columns
pub placed_rises : (cells : List Cell) → ColumnsDiffer cells → IsAscending (λ a b. cell_cmp a b ≡ Less) (placed cells)
placed_rises cells differ =
    subst (IsAscending (λ a b. cell_cmp a b ≡ Less)) (sym (put_in_turn cells []))
    (rises-sort cell_cmp cell_cmp_total (turned_onto cells [])
    (ties_permuted cells (turned_onto cells []) (permuted cells) (ascending_weaker (λ a b. a.column ≢ b.column) (λ a b. is_eq (cell_cmp a b) ≡ false) no_tie cells differ)))

-- and no other order is
pub sorted_placed : (cells now : List Cell) → ColumnsDiffer cells → IsPermutation cells now → IsSorted cell_cmp now → now ≡ placed cells
sorted_placed cells now differ same sorted =
    sorted_unique cell_cmp cell_cmp_total (placed cells) now (placed_rises cells differ)
    (IsPermutation-trans (placed cells) cells now (IsPermutation-sym cells (placed cells) (placed_permuted cells)) same) sorted
