-- What is made class by class.
use Rattle.std.specs.Prelude.{◌≡◌, ℕ, ◌+◌, true, false, ◌==◌, List, [], ◌∷◌, ◌++◌, filter}
use Rattle.std.proofs.Common.{refl, sym, ap, ◌∙◌, arith, zero-add, append-nil, append_assoc}
use Rattle.std.specs.List.{flat_map, range_with_len}
use Rattle.std.proofs.lemmas.Bool.Decides.{nat_tests}
use Rattle.std.proofs.lemmas.List.Concat.{flat_map-append}
use Rattle.jpa_model.proofs.Chained.{range_more, filter_takes, filter_leaves}

-- one class more
pub range_made : {A : Type 0} (f : ℕ → List A) (n : ℕ) → flat_map f (range_with_len 0 (n + 1)) ≡ flat_map f (range_with_len 0 n) ++ f n
range_made f n =
    ap (flat_map f) (range_more 0 n n (zero-add n)) ∙ flat_map-append f (range_with_len 0 n) (n ∷ []) ∙ ap (λ xs. flat_map f (range_with_len 0 n) ++ xs) (append-nil (f n))

same_test : (a b : ℕ) → a ≡ b → (a == b) ≡ true
same_test a b e = grind (arith, nat_tests)

pub other_test : (a b : ℕ) → (a ≡ b → ⊥) → (a == b) ≡ false
other_test a b e = grind (arith, nat_tests)

-- one class more of a hierarchy, or of another
pub taken : {A : Type 0} (f : ℕ → List A) (g : ℕ → ℕ) (root n : ℕ) (start made grown : List A) → made ≡ start ++ flat_map f (filter (λ c. g c == root) (range_with_len 0 n)) → g n ≡ root → grown ≡ made ++ f n
    → grown ≡ start ++ flat_map f (filter (λ c. g c == root) (range_with_len 0 (n + 1)))
taken f g root n start made grown before is e =
    let p = λ (c : ℕ). g c == root in
    let found = filter p (range_with_len 0 n) in
    e ∙ ap (λ xs. xs ++ f n) before ∙ append_assoc start (flat_map f found) (f n)
    ∙ ap (λ xs. start ++ (flat_map f found ++ xs)) (sym (append-nil (f n)))
    ∙ ap (λ xs. start ++ xs) (sym (flat_map-append f found (n ∷ [])))
    ∙ ap (λ xs. start ++ flat_map f xs) (filter_takes p n found (same_test (g n) root is) refl)

pub passed : {A : Type 0} (f : ℕ → List A) (g : ℕ → ℕ) (root n : ℕ) (start made : List A) → made ≡ start ++ flat_map f (filter (λ c. g c == root) (range_with_len 0 n)) → (g n ≡ root → ⊥)
    → made ≡ start ++ flat_map f (filter (λ c. g c == root) (range_with_len 0 (n + 1)))
passed f g root n start made before is =
    let p = λ (c : ℕ). g c == root in
    let found = filter p (range_with_len 0 n) in
    before ∙ ap (λ xs. start ++ flat_map f xs) (filter_leaves p n found (other_test (g n) root is) refl)
