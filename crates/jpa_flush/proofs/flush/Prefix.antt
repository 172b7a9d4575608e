-- What holds of the first items of a list.
use Rattle.std.proofs.Common.{◌≡◌, ◌⊎◌, inl, inr, ℕ, ◌+◌, ◌<◌, ◌≤◌, List, length, get_or, subst, arith}
use Rattle.std.specs.List.{AllByRecursion}
use Rattle.std.proofs.lemmas.Bool.{cases_lt}
use Rattle.std.proofs.lemmas.List.{get_or_default}
use Rattle.std.proofs.lemmas.List.Elements.{recursion_from_All}

abbrev pub Before : {X : Type 0} → (X → Type 0) → ℕ → List X → Type 0
Before {X} P i xs = (k : ℕ) (d : X) → k < i → k < length xs → P (get_or xs k d)

pub before_none : {X : Type 0} (P : X → Type 0) (xs : List X) → Before P 0 xs
before_none P xs k d l m = absurd (omega (arith, l))

pub before_next : {X : Type 0} (P : X → Type 0) (i : ℕ) (x : X) (xs : List X) → x ≡ get_or xs i x → P x → Before P i xs → Before P (i + 1) xs
before_next P i x xs is p h k d l m = by (cases_lt k i)
  where
    by : (k < i) ⊎ (i ≤ k) → P (get_or xs k d)
    by (inl less) = h k d less m
    by (inr more) =
        let same : i ≡ k = omega (arith, more, l) in
        subst (λ j. P (get_or xs j d)) same (subst P (get_or_default xs i x d (omega (arith, same, m))) (subst P is p))

pub before_all : {X : Type 0} (P : X → Type 0) (i : ℕ) (xs : List X) → length xs ≤ i → Before P i xs → AllByRecursion P xs
before_all P i xs l h = recursion_from_All P xs (λ k d m. h k d (omega (arith, l, m)) m)
