-- One more pair of two lists that are gone through together.
use Rattle.std.specs.Prelude.{◌≡◌, Bool, true, ℕ, zero, suc, ◌+◌, ◌<◌, ◌≤◌, List, [], ◌∷◌, ◌++◌, length, take, drop}
use Rattle.std.proofs.Common.{refl, ap, ◌∙◌, arith, get_or}
use Rattle.std.specs.List.{zip, list_all}
use Rattle.std.proofs.Math.ListN.{drop_of_length-le}
use Rattle.jpa_stored.proofs.objects.Entries.{earlier}

nothing : (i : ℕ) → i < 0 → ⊥
nothing i h = omega arith

next : (i : ℕ) → i + 1 ≡ suc i
next i = omega arith

module _ {A B : Type 0} where
  pub no_pairs : (xs : List A) → zip {X = B} xs [] ≡ []
  no_pairs [] = refl
  no_pairs (x ∷ xs) = refl

  zip_more_suc : (xs : List A) (ys : List B) (i : ℕ) (d : A) (e : B) → i < length xs → i < length ys → zip xs (take (suc i) ys) ≡ zip xs (take i ys) ++ (get_or xs i d, get_or ys i e) ∷ []
  zip_more_suc [] ys i d e h g = absurd (nothing i h)
  zip_more_suc (x ∷ xs) [] i d e h g = absurd (nothing i g)
  zip_more_suc (x ∷ xs) (y ∷ ys) zero d e h g = ap (λ ps. (x, y) ∷ ps) (no_pairs xs)
  zip_more_suc (x ∷ xs) (y ∷ ys) (suc i) d e h g = ap (λ ps. (x, y) ∷ ps) (zip_more_suc xs ys i d e (earlier i (length xs) h) (earlier i (length ys) g))

  zip_same_suc : (xs : List A) (ys : List B) (i : ℕ) → length xs ≤ i → zip xs (take (suc i) ys) ≡ zip xs (take i ys)
  zip_same_suc [] ys i h = refl
  zip_same_suc (x ∷ xs) ys zero h = absurd (omega arith)
  zip_same_suc (x ∷ xs) [] (suc i) h = refl
  zip_same_suc (x ∷ xs) (y ∷ ys) (suc i) h = ap (λ ps. (x, y) ∷ ps) (zip_same_suc xs ys i (omega arith))

  pub zip_more : (xs : List A) (ys : List B) (i : ℕ) (d : A) (e : B) → i < length xs → i < length ys → zip xs (take (i + 1) ys) ≡ zip xs (take i ys) ++ (get_or xs i d, get_or ys i e) ∷ []
  zip_more xs ys i d e h g = ap (λ n. zip xs (take n ys)) (next i) ∙ zip_more_suc xs ys i d e h g

  pub zip_same : (xs : List A) (ys : List B) (i : ℕ) → length xs ≤ i → zip xs (take (i + 1) ys) ≡ zip xs (take i ys)
  zip_same xs ys i h = ap (λ n. zip xs (take n ys)) (next i) ∙ zip_same_suc xs ys i h

module _ {A B : Type 0} (f : A × B → Bool) where
  pub all_end : (xs : List A) (ys : List B) (i : ℕ) → length ys ≤ i → list_all f (zip xs (drop i ys)) ≡ true
  all_end xs ys i h = ap (λ zs. list_all f (zip xs zs)) (drop_of_length-le ys h) ∙ ap (list_all f) (no_pairs xs)
