-- Rowids that are left, and columns that differ.
use Rattle.std.proofs.Common.{◌≡◌, ◌≢◌, ℕ, ◌+◌, ◌≤◌, ℤ, pos, ◌+ℤ◌, Bool, true, false, cond, List, [], ◌∷◌, ◌++◌, fold, filter, refl, sym, ap, subst, ◌∙◌, arith, le_trans, append-nil, is_eq, is_gt, int_cmp, IsPermutation, true≢false, inl, inr}
use Rattle.std.specs.List.{AllByRecursion}
use Rattle.std.specs.FinMap.{int_cmp-IsAntisymmetric}
use Rattle.std.proofs.lemmas.Int.{ints}
use Rattle.std.proofs.lemmas.Bool.{cases_Bool}
use Rattle.std.proofs.lemmas.Cmp.{tied_itself, int_cmp_total}
use Rattle.std.proofs.lemmas.List.{append_assoc}
use Rattle.std.proofs.lemmas.List.Sorted.{IsPermutation-refl, IsPermutation-cons, IsPermutation-trans, IsPermutation-sym, IsPermutation-middle, IsPermutation-append}
use Rattle.sqlite.specs.Order.{Row}
use Rattle.sqlite.specs.Tree.{IsAscending, put_row, rowid}
use Rattle.sqlite.specs.Edit.{next_rowid, id_in}
use Rattle.sqlite.specs.Ops.{fits_i64}
use Rattle.sqlite_keyed.specs.Lists.{insert_sorted}
use Rattle.sqlite_keyed.proofs.ListLemmas.{all_weaker, all-filter, ascending_weaker}
use Rattle.jpa_cells.specs.declared.meaning.Cell.{Cell}
use Rattle.jpa_cells.specs.meaning.Tables.{cell_cmp, placed, ColumnsDiffer}
use Rattle.jpa_cells.specs.meaning.Content.{IsFollowed, HasRowids}
use Rattle.jpa_cells.proofs.meaning.RowMeaning.{tie}
use Rattle.jpa_cells.proofs.meaning.Contents.{NoTies, ties_permuted, new_row}
use Rattle.jpa_cells.proofs.meaning.Edits.{all-put}

-- ---- rowids

fewer : (few many : ℕ) (id : ℤ) → few ≤ many → IsFollowed many id → IsFollowed few id
fewer few many id less h n within = h n (le_trans within less)

pub rowids_fewer : (few many : ℕ) (rows : List Row) → few ≤ many → HasRowids many rows → HasRowids few rows
rowids_fewer few many rows less h = (fewer few many (pos 0) less h.0, all_weaker _ _ (λ r. fewer few many (id_in (rowid r)) less) rows h.1)

-- the next rowid is one above a number that is followed as the rowids are
before_next : (count : ℕ) (rows : List Row) (id : ℤ) → IsFollowed count id → AllByRecursion (λ r. IsFollowed count (id_in (rowid r))) rows
    → (last : ℤ) × (fold (λ _ r. id_in (rowid r) +ℤ pos 1) (id +ℤ pos 1) rows ≡ last +ℤ pos 1) × IsFollowed count last
before_next count [] id h all = (id, refl, h)
before_next count (r ∷ rows) id h all = before_next count rows (id_in (rowid r)) all.0 all.1

module _ (count : ℕ) (rows : List Row) (h : HasRowids (count + 1) rows) where
  last : (last : ℤ) × (next_rowid rows ≡ last +ℤ pos 1) × IsFollowed (count + 1) last
  last = before_next (count + 1) rows (pos 0) h.0 h.1

  pub next_fits : fits_i64 (next_rowid rows) ≡ true
  next_fits = ap fits_i64 last.1 ∙ last.2 1 (omega arith)

  next_followed : IsFollowed count (next_rowid rows)
  next_followed n within =
      let step : (last.0 +ℤ pos 1) +ℤ pos n ≡ last.0 +ℤ pos (n + 1) = omega (arith, ints) in
      ap (λ id. fits_i64 (id +ℤ pos n)) last.1 ∙ ap fits_i64 step ∙ last.2 (n + 1) (omega (arith, within))

  pub rowids_put : (table : ℤ) (key : List ℕ) (col : ℤ) (value : List ℕ) → HasRowids count (put_row (new_row (next_rowid rows) table key col value) rows)
  rowids_put table key col value =
      let less = rowids_fewer count (count + 1) rows (omega arith) h in
      (less.0, all-put (λ r. IsFollowed count (id_in (rowid r))) _ rows next_followed less.1)

pub rowids_without : (count : ℕ) (test : Row → Bool) (rows : List Row) → HasRowids count rows → HasRowids count (filter test rows)
rowids_without count test rows h = (h.0, all-filter _ test rows h.1)

-- ---- columns

ties : (a b : Cell) → a.column ≢ b.column → is_eq (cell_cmp a b) ≡ false
ties a b apart = elim (cases_Bool (is_eq (cell_cmp a b))) [ inl same ↦ absurd (apart (int_cmp-IsAntisymmetric a.column b.column (tie _ same))) | inr differ ↦ differ ]

untied : (a b : Cell) → is_eq (cell_cmp a b) ≡ false → a.column ≢ b.column
untied a b h same = true≢false (sym (subst (λ c. is_eq (int_cmp a.column c) ≡ true) same (ap is_eq (tied_itself int_cmp_total a.column))) ∙ h)

to_ties : (cells : List Cell) → ColumnsDiffer cells → NoTies cells
to_ties = ascending_weaker _ _ ties

from_ties : (cells : List Cell) → NoTies cells → ColumnsDiffer cells
from_ties = ascending_weaker _ _ untied

pub differ_permuted : (xs ys : List Cell) → IsPermutation xs ys → ColumnsDiffer xs → ColumnsDiffer ys
differ_permuted xs ys same h = from_ties ys (ties_permuted xs ys same (to_ties xs h))

insert_permutes : (new : Cell) (xs : List Cell) → IsPermutation (insert_sorted cell_cmp new xs) (new ∷ xs)
insert_permutes new [] = IsPermutation-refl _
insert_permutes new (x ∷ xs) =
    elim (is_gt (cell_cmp new x)) as (λ b. IsPermutation (cond b (x ∷ insert_sorted cell_cmp new xs) (new ∷ x ∷ xs)) (new ∷ x ∷ xs)) [
      | true ↦ IsPermutation-trans _ _ _ (IsPermutation-cons x _ _ (insert_permutes new xs)) (IsPermutation-middle (x ∷ []) new xs)
      | false ↦ IsPermutation-refl _
    ]

placed_permutes : (done cells : List Cell) → IsPermutation (fold (λ sorted cell. insert_sorted cell_cmp cell sorted) done cells) (done ++ cells)
placed_permutes done [] = subst (λ l. IsPermutation done l) (sym (append-nil done)) (IsPermutation-refl done)
placed_permutes done (cell ∷ cells) =
    IsPermutation-trans _ _ _ (placed_permutes (insert_sorted cell_cmp cell done) cells)
    (IsPermutation-trans _ _ _ (IsPermutation-append _ _ _ _ (insert_permutes cell done) (IsPermutation-refl cells)) (IsPermutation-sym _ _ (IsPermutation-middle done cell cells)))

pub differ_placed : (cells : List Cell) → NoTies (placed cells) → ColumnsDiffer cells
differ_placed cells h = from_ties cells (ties_permuted _ _ (placed_permutes [] cells) h)

-- one of the cells that are to be added is added
pub differ_inserted : (done : List Cell) (cell : Cell) (rest : List Cell) → ColumnsDiffer (done ++ cell ∷ rest) → ColumnsDiffer (insert_sorted cell_cmp cell done ++ rest)
differ_inserted done cell rest =
    differ_permuted _ _ (IsPermutation-trans _ _ _ (IsPermutation-middle done cell rest) (IsPermutation-sym _ _ (IsPermutation-append _ _ _ _ (insert_permutes cell done) (IsPermutation-refl rest))))

module _ {X : Type 0} (R : X → X → Type 0) where
  all_front : (P : X → Type 0) (xs ys : List X) → AllByRecursion P (xs ++ ys) → AllByRecursion P xs
  all_front P [] ys h = tt
  all_front P (x ∷ xs) ys h = (h.0, all_front P xs ys h.1)

  ascending_front : (xs ys : List X) → IsAscending R (xs ++ ys) → IsAscending R xs
  ascending_front [] ys h = tt
  ascending_front (x ∷ xs) ys h = (all_front (R x) xs ys h.0, ascending_front xs ys h.1)

  before_it : (xs : List X) (y : X) (ys : List X) → IsAscending R (xs ++ y ∷ ys) → AllByRecursion (λ x. R x y) xs
  before_it [] y ys h = tt
  before_it (x ∷ xs) y ys h = (at_it (R x) xs h.0, before_it xs y ys h.1)
    where
      at_it : (P : X → Type 0) (zs : List X) → AllByRecursion P (zs ++ y ∷ ys) → P y
      at_it P [] k = k.0
      at_it P (z ∷ zs) k = at_it P zs k.1

pub differ_first : (done : List Cell) (cell : Cell) (rest : List Cell) → ColumnsDiffer (done ++ cell ∷ rest) → ColumnsDiffer (done ++ cell ∷ [])
differ_first done cell rest h = ascending_front _ (done ++ cell ∷ []) rest (subst ColumnsDiffer (sym (append_assoc done (cell ∷ []) rest)) h)

pub free_before : (done : List Cell) (cell : Cell) (rest : List Cell) → ColumnsDiffer (done ++ cell ∷ rest) → AllByRecursion (λ c. is_eq (cell_cmp c cell) ≡ false) done
free_before done cell rest h = all_weaker _ _ (λ c. ties c cell) done (before_it _ done cell rest h)
