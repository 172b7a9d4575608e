-- Names that are distinct by a key, and as a list.
use Rattle.std.proofs.Common.{◌≡◌, ℕ, Bool, ◌||◌, List, [], ◌∷◌, map, refl, ap}
use Rattle.std.specs.List.{list_any}
use Rattle.jpa_model.specs.Chains.{same_name}
use Rattle.jpa_model.specs.WellFormed.{are_distinct_by}

pub list_any-map : {A B : Type 0} (p : B → Bool) (f : A → B) → (xs : List A) → list_any p (map f xs) ≡ list_any (λ x. p (f x)) xs
list_any-map p f [] = refl
list_any-map p f (x ∷ xs) = ap (λ b. p (f x) || b) (list_any-map p f xs)

pub are_distinct_by-map : {A : Type 0} (f : A → List ℕ) → (xs : List A) → are_distinct_by (λ n. n) (map f xs) ≡ are_distinct_by f xs
are_distinct_by-map f [] = refl
are_distinct_by-map f (x ∷ xs) = rw (list_any-map (same_name (f x)) f xs, are_distinct_by-map f xs)

pub map-self : {A : Type 0} (xs : List A) → map (λ x. x) xs ≡ xs
map-self [] = refl
map-self (x ∷ xs) = ap (λ ys. x ∷ ys) (map-self xs)
