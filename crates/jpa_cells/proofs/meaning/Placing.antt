-- What a caller knows of changes: they are those of a finite map from rows to cells.
use Rattle.std.proofs.Common.{◌≡◌, ◌&&◌, ℕ, ℤ, append-nil, List, [], ◌∷◌, ◌++◌, Bool, true, false, cond, fold, refl, sym, ap, subst, ◌∙◌, Less, is_eq, is_gt, int_cmp}
use Rattle.std.specs.List.{AllByRecursion}
use Rattle.std.specs.Ordering.{ordering_reverse}
use Rattle.std.proofs.lemmas.List.{append_assoc}
use Rattle.sqlite.specs.Tree.{IsAscending}
use Rattle.sqlite_keyed.specs.Lists.{insert_sorted}
use Rattle.jpa_cells.specs.declared.meaning.Cell.{Cell}
use Rattle.jpa_cells.specs.declared.meaning.CellChange.{CellChange}
use Rattle.jpa_cells.specs.meaning.Tables.{Tables, row_of, key_cmp, cell_cmp, cells_at, placed, rows_after, changed}
use Rattle.jpa_cells.proofs.meaning.Contents.{cell_cmp_total}
use Rattle.jpa_cells.proofs.meaning.Rows.{put_at, without_at, either_way}

-- ---- cells in rising columns stay as they are

abbrev Rises : List Cell → Type 0
Rises = IsAscending (λ a b. cell_cmp a b ≡ Less)

placed_last : (new : Cell) (cells : List Cell) → AllByRecursion (λ c. cell_cmp c new ≡ Less) cells → insert_sorted cell_cmp new cells ≡ cells ++ new ∷ []
placed_last new [] all = refl
placed_last new (c ∷ cells) all =
    ap (λ o. cond (is_gt o) (c ∷ insert_sorted cell_cmp new cells) (new ∷ c ∷ cells)) (cell_cmp_total.antisymm new c ∙ ap ordering_reverse all.0) ∙ ap (λ l. c ∷ l) (placed_last new cells all.1)

at_append : (P : Cell → Type 0) (before : List Cell) (c : Cell) (after : List Cell) → AllByRecursion P (before ++ c ∷ after) → P c
at_append P [] c after all = all.0
at_append P (b ∷ before) c after all = at_append P before c after all.1

all_below : (before : List Cell) (c : Cell) (after : List Cell) → Rises (before ++ c ∷ after) → AllByRecursion (λ b. cell_cmp b c ≡ Less) before
all_below [] c after up = tt
all_below (b ∷ before) c after up = (at_append (λ x. cell_cmp b x ≡ Less) before c after up.0, all_below before c after up.1)

placed_after : (before cells : List Cell) → Rises (before ++ cells) → fold (λ sorted cell. insert_sorted cell_cmp cell sorted) before cells ≡ before ++ cells
placed_after before [] up = sym (append-nil before)
placed_after before (c ∷ cells) up =
    ap (λ l. fold (λ sorted cell. insert_sorted cell_cmp cell sorted) l cells) (placed_last c before (all_below before c cells up))
    ∙ placed_after (before ++ c ∷ []) cells (subst Rises (sym (append_assoc before (c ∷ []) cells)) up) ∙ append_assoc before (c ∷ []) cells

pub placed_rising : (cells : List Cell) → IsAscending (λ a b. cell_cmp a b ≡ Less) cells → placed cells ≡ cells
placed_rising cells up = placed_after [] cells up

-- ---- a change is seen at its row alone

pub cells_after : (change : CellChange) (tables : Tables) (t : ℤ) (key : List ℕ)
    → cells_at key (changed change tables t) ≡ cond (is_eq (int_cmp change.table t) && is_eq (key_cmp change.row key)) (placed change.cells) (cells_at key (tables t))
cells_after change tables t key = go (is_eq (int_cmp change.table t)) change.cells
  where
    go : (b : Bool) (cells : List Cell) → cells_at key (cond b (rows_after change.row cells (tables t)) (tables t)) ≡ cond (b && is_eq (key_cmp change.row key)) (placed cells) (cells_at key (tables t))
    go false cells = refl
    go true [] = without_at key change.row (tables t) ∙ ap (λ b. cond b [] (cells_at key (tables t))) (either_way key change.row)
    go true (c ∷ cells) = put_at key (row_of change.row (placed (c ∷ cells))) (tables t) ∙ ap (λ b. cond b (placed (c ∷ cells)) (cells_at key (tables t))) (either_way key change.row)
