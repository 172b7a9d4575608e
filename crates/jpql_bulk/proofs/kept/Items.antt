-- Lists item by item, alone and beside another one.
use Rattle.std.proofs.Common.{◌≡◌, ◌∙◌, refl, sym, subst, ℕ, zero, suc, Bool, true, false, List, [], ◌∷◌, ◌++◌}
use Rattle.std.specs.Prelude.{◌&&◌, if◌then◌else◌, Some, slice_get, slice_set, slice_index_or}
use Rattle.std.specs.List.{AllByRecursion, filter, list_all, zip}
use Rattle.std.proofs.lemmas.Bool.{and_from, and_parts, false≢true}
use Rattle.std.proofs.lemmas.List.Folds.{list_all-append}
use Rattle.jpa_rows.proofs.laws.Facts.{some_none, value_in}
use Rattle.jpa_stored.specs.objects.Sets.{each_fits}
use Rattle.jpql_meaning.specs.declared.eval.datum.Truth.{Truth}
use Rattle.jpql_meaning.specs.eval.Answers.{Answer, gives, overflows, both}
use Rattle.jpql_meaning.specs.eval.Truths.{is_yes}
use Rattle.jpql_meaning.specs.plan.Meaning.{kept}

pub no_item : {A : Type 0} (i : ℕ) (x : A) → slice_get [] i ≡ Some x → ⊥
no_item i x e = some_none x (sym e)

module _ {A B : Type 0} (f : A → B → Bool) where
  -- what stands beside the item at a place fits it
  pub fits_at : (d : B) (xs : List A) (ys : List B) (i : ℕ) (x : A) → each_fits f xs ys ≡ true → slice_get xs i ≡ Some x → f x (slice_index_or ys i d) ≡ true
  fits_at d [] [] i x h e = absurd (no_item i x e)
  fits_at d [] (y ∷ ys) i x h e = absurd (false≢true h)
  fits_at d (z ∷ xs) [] i x h e = absurd (false≢true h)
  fits_at d (z ∷ xs) (y ∷ ys) zero x h e = subst (λ w. f w y ≡ true) (value_in z x e) (and_parts (f z y) (each_fits f xs ys) h).0
  fits_at d (z ∷ xs) (y ∷ ys) (suc i) x h e = fits_at d xs ys i x (and_parts (f z y) (each_fits f xs ys) h).1 e

  -- another one that fits
  pub fits_set : (xs : List A) (ys : List B) (i : ℕ) (y : B) → each_fits f xs ys ≡ true → ((x : A) → slice_get xs i ≡ Some x → f x y ≡ true) → each_fits f xs (slice_set ys i y) ≡ true
  fits_set [] [] i y h k = h
  fits_set [] (z ∷ zs) i y h k = absurd (false≢true h)
  fits_set (x ∷ xs) [] i y h k = h
  fits_set (x ∷ xs) (z ∷ zs) zero y h k = and_from (f x y) (each_fits f xs zs) (k x refl) (and_parts (f x z) (each_fits f xs zs) h).1
  fits_set (x ∷ xs) (z ∷ zs) (suc i) y h k =
      let p = and_parts (f x z) (each_fits f xs zs) h in
      and_from (f x z) (each_fits f xs (slice_set zs i y)) p.0 (fits_set xs zs i y p.1 (λ w e. k w e))

-- pairs
module _ {A B : Type 0} (p : A × B → Bool) where
  pub pair_at : (d : B) (xs : List A) (ys : List B) (i : ℕ) (x : A) → list_all p (zip xs ys) ≡ true → slice_get xs i ≡ Some x → p (x, d) ≡ true → p (x, slice_index_or ys i d) ≡ true
  pair_at d [] ys i x h e k = absurd (no_item i x e)
  pair_at d (z ∷ xs) [] i x h e k = k
  pair_at d (z ∷ xs) (y ∷ ys) zero x h e k = subst (λ w. p (w, y) ≡ true) (value_in z x e) (and_parts (p (z, y)) (list_all p (zip xs ys)) h).0
  pair_at d (z ∷ xs) (y ∷ ys) (suc i) x h e k = pair_at d xs ys i x (and_parts (p (z, y)) (list_all p (zip xs ys)) h).1 e k

  pub pair_set : (xs : List A) (ys : List B) (i : ℕ) (y : B) → list_all p (zip xs ys) ≡ true → ((x : A) → slice_get xs i ≡ Some x → p (x, y) ≡ true) → list_all p (zip xs (slice_set ys i y)) ≡ true
  pair_set [] ys i y h k = refl
  pair_set (x ∷ xs) [] i y h k = refl
  pair_set (x ∷ xs) (z ∷ zs) zero y h k = and_from (p (x, y)) (list_all p (zip xs zs)) (k x refl) (and_parts (p (x, z)) (list_all p (zip xs zs)) h).1
  pair_set (x ∷ xs) (z ∷ zs) (suc i) y h k =
      let q = and_parts (p (x, z)) (list_all p (zip xs zs)) h in
      and_from (p (x, z)) (list_all p (zip xs (slice_set zs i y))) q.0 (pair_set xs zs i y q.1 (λ w e. k w e))

-- ---- tests of all

module _ {A : Type 0} (p : A → Bool) where
  pub all_weaker : (q : A → Bool) → ((x : A) → p x ≡ true → q x ≡ true) → (xs : List A) → list_all p xs ≡ true → list_all q xs ≡ true
  all_weaker q k [] h = refl
  all_weaker q k (x ∷ xs) h = let a = and_parts (p x) (list_all p xs) h in and_from (q x) (list_all q xs) (k x a.0) (all_weaker q k xs a.1)

  pub all_both : (q : A → Bool) (xs : List A) → list_all p xs ≡ true → list_all q xs ≡ true → list_all (λ x. p x && q x) xs ≡ true
  all_both q [] h g = refl
  all_both q (x ∷ xs) h g =
      let a = and_parts (p x) (list_all p xs) h in
      let b = and_parts (q x) (list_all q xs) g in
      and_from (p x && q x) (list_all (λ y. p y && q y) xs) (and_from (p x) (q x) a.0 b.0) (all_both q xs a.1 b.1)

  all_if : (x : A) (xs : List A) (b : Bool) → (b ≡ true → p x ≡ true) → list_all p xs ≡ true → list_all p (if b then x ∷ xs else xs) ≡ true
  all_if x xs true k h = and_from (p x) (list_all p xs) (k refl) h
  all_if x xs false k h = h

  -- those that pass another test too
  pub all_filtered : (t : A → Bool) (xs : List A) → list_all p xs ≡ true → list_all p (filter t xs) ≡ true
  all_filtered t [] h = refl
  all_filtered t (x ∷ xs) h = let a = and_parts (p x) (list_all p xs) h in all_if x (filter t xs) (t x) (λ _. a.0) (all_filtered t xs a.1)

  pub all_parts : (xs ys : List A) → list_all p (xs ++ ys) ≡ true → (list_all p xs ≡ true) × (list_all p ys ≡ true)
  all_parts xs ys h = and_parts (list_all p xs) (list_all p ys) (sym (list_all-append p xs ys) ∙ h)

-- ---- what holds of each

module _ {A : Type 0} (P : A → Type 0) where
  each_if : (x : A) (xs : List A) (b : Bool) → P x → AllByRecursion P xs → AllByRecursion P (if b then x ∷ xs else xs)
  each_if x xs true h rest = (h, rest)
  each_if x xs false h rest = rest

  kept_one : (x : A) (t : Answer Truth) (rest : Answer (List A)) (ys : List A) → P x → ((zs : List A) → rest ≡ gives zs → AllByRecursion P zs)
      → both (λ t more. if is_yes t then x ∷ more else more) t rest ≡ gives ys → AllByRecursion P ys
  kept_one x overflows rest ys h k e = absurd cc
  kept_one x (gives t) overflows ys h k e = absurd cc
  kept_one x (gives t) (gives zs) ys h k e =
      let same : (if is_yes t then x ∷ zs else zs) ≡ ys = cc in
      subst (AllByRecursion P) same (each_if x zs (is_yes t) h (k zs refl))

  -- of those that WHERE keeps
  pub each_kept : (test : A → Answer Truth) (xs ys : List A) → AllByRecursion P xs → kept test xs ≡ gives ys → AllByRecursion P ys
  each_kept test [] ys h e = let same : [] ≡ ys = cc in subst (AllByRecursion P) same tt
  each_kept test (x ∷ xs) ys h e = kept_one x (test x) (kept test xs) ys h.0 (λ zs g. each_kept test xs zs h.1 g) e
