-- Lists of cells and of numbers, in which no column and no number stands twice.
use Rattle.std.specs.Prelude.{◌≡◌, ℕ, zero, suc, ◌+◌, ◌<◌, true, not, ◌==◌, List, [], ◌∷◌, ◌++◌, map}
use Rattle.std.proofs.Common.{refl, sym, ap, ◌∙◌, ◌⊎◌, inl, inr, arith, Less, is_eq, true≢false}
use Rattle.std.specs.List.{list_any, range_with_len}
use Rattle.std.proofs.lemmas.Cmp.{tied_itself}
use Rattle.sqlite.specs.Tree.{IsAscending}
use Rattle.jpa_rows.proofs.laws.Facts.{and_first, and_second, true_false}
use Rattle.jpa_rows.proofs.laws.Elements.{Has, has_append, into_map}
use Rattle.jpa_rows.proofs.laws.Lists.{all_each, all_from, has_any}
use Rattle.jpa_cells.specs.declared.meaning.Cell.{Cell}
use Rattle.jpa_cells.specs.meaning.Tables.{cell_cmp}
use Rattle.jpa_cells.proofs.meaning.Contents.{cell_cmp_total}
use Rattle.jpa_object_rows.specs.meaning.Unambiguous.{are_distinct_numbers}
use Rattle.jpa_object_rows.proofs.meaning.Bytes.Orders.{same_number}
use Rattle.jpa_object_rows.proofs.meaning.Bytes.Classes.{in_range}

pub ascending-append : {A : Type 0} (R : A → A → Type 0) (xs ys : List A) → IsAscending R xs → IsAscending R ys → ((x y : A) → Has xs x → Has ys y → R x y) → IsAscending R (xs ++ ys)
ascending-append R [] ys up down across = down
ascending-append {A} R (x ∷ xs) ys up down across =
    (all_from (R x) (xs ++ ys) (λ y k. by_side y (has_append xs ys y k)), ascending-append R xs ys up.1 down (λ y z p q. across y z (inr p) q))
  where
    by_side : (y : A) → Has xs y ⊎ Has ys y → R x y
    by_side y (inl k) = all_each (R x) xs up.0 y k
    by_side y (inr k) = across x y (inl refl) k

-- ---- cells in rising columns

pub less_apart : (a b : Cell) → cell_cmp a b ≡ Less → a.column ≡ b.column → ⊥
less_apart a b less same =
    true≢false (ap is_eq (sym (tied_itself cell_cmp_total a)) ∙ ap (λ column. is_eq (cell_cmp a (record { column = column; value = b.value }))) same ∙ ap is_eq less)

pub same_columns : (cells : List Cell) → IsAscending (λ a b. cell_cmp a b ≡ Less) cells → (a b : Cell) → Has cells a → Has cells b → a.column ≡ b.column → a ≡ b
same_columns [] up a b p q e = absurd p
same_columns (c ∷ cells) up a b (inl p) (inl q) e = sym p ∙ q
same_columns (c ∷ cells) up a b (inl p) (inr q) e = absurd (less_apart c b (all_each (λ x. cell_cmp c x ≡ Less) cells up.0 b q) (ap (λ (x : Cell). x.column) p ∙ e))
same_columns (c ∷ cells) up a b (inr p) (inl q) e = absurd (less_apart c a (all_each (λ x. cell_cmp c x ≡ Less) cells up.0 a p) (ap (λ (x : Cell). x.column) q ∙ sym e))
same_columns (c ∷ cells) up a b (inr p) (inr q) e = same_columns cells up.1 a b p q e

-- ---- distinct numbers

pub not_later : {A : Type 0} (f : A → ℕ) (x : A) (xs : List A) → are_distinct_numbers (map f (x ∷ xs)) ≡ true → (y : A) → Has xs y → f x ≡ f y → ⊥
not_later f x xs h y k e =
    true_false (sym (and_first (not (list_any (λ n. f x == n) (map f xs))) _ h) ∙ ap not (has_any (λ n. f x == n) (map f xs) (f y) (into_map f xs y k) (ap (λ n. f x == n) (sym e) ∙ same_number (f x))))

pub distinct_items : {A : Type 0} (f : A → ℕ) (xs : List A) → are_distinct_numbers (map f xs) ≡ true → (a b : A) → Has xs a → Has xs b → f a ≡ f b → a ≡ b
distinct_items f [] h a b p q e = absurd p
distinct_items f (x ∷ xs) h a b (inl p) (inl q) e = sym p ∙ q
distinct_items f (x ∷ xs) h a b (inl p) (inr q) e = absurd (not_later f x xs h b q (ap f p ∙ e))
distinct_items f (x ∷ xs) h a b (inr p) (inl q) e = absurd (not_later f x xs h a p (ap f q ∙ sym e))
distinct_items f (x ∷ xs) h a b (inr p) (inr q) e = distinct_items f xs (and_second (not (list_any (λ n. f x == n) (map f xs))) _ h) a b p q e

-- a range rises
pub range_rises : (a n : ℕ) → IsAscending (λ (x y : ℕ). x < y) (range_with_len a n)
range_rises a zero = tt
range_rises a (suc n) = (all_from (λ y. a < y) (range_with_len (a + 1) n) (λ y k. let low = (in_range (a + 1) n y k).0 in omega arith), range_rises (a + 1) n)
