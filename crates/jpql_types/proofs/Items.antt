-- Items and what they are of.
use Rattle.std.proofs.Common.{◌≡◌, ℕ, zero, suc, Bool, true, false, ◌&&◌, List, [], ◌∷◌, map, length, slice_get, find, is_some, Option, Some, None, cond, refl, sym, ◌∙◌, subst}
use Rattle.std.specs.List.{list_all, position_from}
use Rattle.std.proofs.Math.Dec.{ltb}
use Rattle.std.proofs.lemmas.Bool.{ltb-false}
use Rattle.std.proofs.lemmas.Option.{slice_get_past}
use Rattle.std.proofs.lemmas.List.Folds.{find_at}
use Rattle.std.proofs.lemmas.Iterator.Adapters.{position_from-zero}
use Rattle.jpql_trees.specs.tree.Steps.{◌>>=◌}
use Rattle.jpql_types.specs.Typing.{all_some}

-- ---- all are well typed where all are of some sort

module _ {B : Type 0} where
  kept : (b : B) (more : Option (List B)) → is_some more ≡ is_some (more >>= λ all. Some (b ∷ all))
  kept b None = refl
  kept b (Some all) = refl

  one_more : (y : Option B) (all : List (Option B)) (rest : Bool) → rest ≡ is_some (all_some all) → (is_some y && rest) ≡ is_some (all_some (y ∷ all))
  one_more None all rest h = refl
  one_more (Some b) all rest h = h ∙ kept b (all_some all)

  pub all_of_sorts : {A : Type 0} (sort : A → Option B) (xs : List A) → list_all (λ x. is_some (sort x)) xs ≡ is_some (all_some (map sort xs))
  all_of_sorts sort [] = refl
  all_of_sorts sort (x ∷ xs) = one_more (sort x) (map sort xs) _ (all_of_sorts sort xs)

  -- ---- the sort at a place

  split : (b : B) (all : List (Option B)) (r : Option (List B)) (ys : List B) → all_some all ≡ r → (r >>= λ more. Some (b ∷ more)) ≡ Some ys
      → (more : List B) × (all_some all ≡ Some more) × (b ∷ more ≡ ys)
  split b all None ys e h = absurd cc
  split b all (Some more) ys e h = (more, e, cc)

  parts : (y : Option B) (all : List (Option B)) (ys : List B) → all_some (y ∷ all) ≡ Some ys → (b : B) × (more : List B) × (Some b ≡ y) × (all_some all ≡ Some more) × (b ∷ more ≡ ys)
  parts None all ys h = absurd cc
  parts (Some b) all ys h = let p = split b all (all_some all) ys refl h in (b, p.0, refl, p.1, p.2)

  pub sort_at : {A : Type 0} (sort : A → Option B) (xs : List A) (ys : List B) (i : ℕ) → all_some (map sort xs) ≡ Some ys → slice_get ys i ≡ (slice_get xs i >>= sort)
  sort_at sort [] ys i h = let e : [] ≡ ys = cc in subst (λ l. slice_get l i ≡ None) e refl
  sort_at sort (x ∷ xs) ys zero h = let p = parts (sort x) (map sort xs) ys h in subst (λ l. slice_get l zero ≡ sort x) p.4 p.2
  sort_at sort (x ∷ xs) ys (suc i) h = let p = parts (sort x) (map sort xs) ys h in subst (λ l. slice_get l (suc i) ≡ (slice_get xs i >>= sort)) p.4 (sort_at sort xs p.1 i p.3)

  -- ---- the sort of the first that passes a test

  placed : {A : Type 0} (sort : A → Option B) (xs : List A) (ys : List B) (n : ℕ) (inside : Bool) → all_some (map sort xs) ≡ Some ys → ltb n (length xs) ≡ inside
      → (slice_get xs n >>= sort) ≡ (cond inside (Some n) None >>= slice_get ys)
  placed sort xs ys n true h e = sym (sort_at sort xs ys n h)
  placed sort xs ys n false h e = rw (slice_get_past xs n (ltb-false _ _ e))

  pub sort_of_first : {A : Type 0} (sort : A → Option B) (test : A → Bool) (xs : List A) (ys : List B) → all_some (map sort xs) ≡ Some ys
      → (find test xs >>= sort) ≡ (position_from test 0 xs >>= slice_get ys)
  sort_of_first sort test xs ys h = rw (find_at test xs) (rw (sym (position_from-zero test xs)) (placed sort xs ys _ _ h refl))
