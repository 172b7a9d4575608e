-- The first item of a list made of lists.
use Rattle.std.proofs.Common.{◌≡◌, ℕ, suc, ◌+◌, Bool, true, false, cond, List, [], ◌∷◌, ◌++◌, map, length, Option, Some, None, refl, ap, sym, ◌∙◌, ◌<◌, get_or, drop, drop-cons, add-one, subst, arith}
use Rattle.std.specs.Prelude.{find, IfSome}
use Rattle.std.specs.List.{flat_map, position_from}
use Rattle.jpa_model.specs.Chains.{or_else, same_name}

pub find-append : {A : Type 0} (p : A → Bool) (xs ys : List A) → find p (xs ++ ys) ≡ or_else (find p xs) (find p ys)
find-append p [] ys = refl
find-append p (x ∷ xs) ys = first (p x) (find-append p xs ys)
  where
    first : (b : Bool) → find p (xs ++ ys) ≡ or_else (find p xs) (find p ys) → cond b (Some x) (find p (xs ++ ys)) ≡ or_else (cond b (Some x) (find p xs)) (find p ys)
    first true e = refl
    first false e = e

pub find_here : {A : Type 0} (p : A → Bool) (xs ys : List A) (found : A) → find p xs ≡ Some found → find p (xs ++ ys) ≡ Some found
find_here p xs ys found e = find-append p xs ys ∙ ap (λ o. or_else o (find p ys)) e

pub find_later : {A : Type 0} (p : A → Bool) (xs ys : List A) → find p xs ≡ None → find p (xs ++ ys) ≡ find p ys
find_later p xs ys e = find-append p xs ys ∙ ap (λ o. or_else o (find p ys)) e

-- the first item of what a list's items give, at the place where a search stands
pub flat_map-find_here : {A B : Type 0} (f : A → List B) (p : B → Bool) (xs : List A) (i : ℕ) (d : A) (found : B) → i < length xs → find p (f (get_or xs i d)) ≡ Some found → find p (flat_map f (drop i xs)) ≡ Some found
flat_map-find_here f p xs i d found h e = rw (drop-cons xs i d h) (find_here p (f (get_or xs i d)) (flat_map f (drop (suc i) xs)) found e)

pub flat_map-find_later : {A B : Type 0} (f : A → List B) (p : B → Bool) (xs : List A) (i : ℕ) (d : A) → i < length xs → find p (f (get_or xs i d)) ≡ None → find p (flat_map f (drop (i + 1) xs)) ≡ find p (flat_map f (drop i xs))
flat_map-find_later f p xs i d h e = rw (add-one i, drop-cons xs i d h) (sym (find_later p (f (get_or xs i d)) (flat_map f (drop (suc i) xs)) e))

-- a place among names is a place among what they name
pub position_from-map : {A B : Type 0} (p : B → Bool) (f : A → B) (i : ℕ) (xs : List A) → position_from p i (map f xs) ≡ position_from (λ x. p (f x)) i xs
position_from-map p f i [] = refl
position_from-map p f i (x ∷ xs) = ap (λ o. cond (p (f x)) (Some i) o) (position_from-map p f (i + 1) xs)

-- two lists of the same names have a name at the same place
pub place_by_names : {A B : Type 0} (f : A → List ℕ) (g : B → List ℕ) (name : List ℕ) (xs : List A) (ys : List B) → map f xs ≡ map g ys → position_from (λ x. same_name (f x) name) 0 xs ≡ position_from (λ y. same_name (g y) name) 0 ys
place_by_names f g name xs ys e =
    sym (position_from-map (λ n. same_name n name) f 0 xs) ∙ ap (position_from (λ n. same_name n name) 0) e ∙ position_from-map (λ n. same_name n name) g 0 ys

-- a place that was found is a place of the list
pub position_from-within : {A : Type 0} (p : A → Bool) (i : ℕ) (xs : List A) → IfSome (position_from p i xs) (λ k. k < i + length xs)
position_from-within p i [] = tt
position_from-within p i (x ∷ xs) = here (p x) (position_from p (i + 1) xs) (position_from-within p (i + 1) xs)
  where
    here : (b : Bool) (o : Option ℕ) → IfSome o (λ k. k < i + 1 + length xs) → IfSome (cond b (Some i) o) (λ k. k < i + length (x ∷ xs))
    here true o within = omega arith
    here false o within =
        let same : i + 1 + length xs ≡ i + length (x ∷ xs) = omega arith in
        subst (λ n. IfSome o (λ k. k < n)) same within
