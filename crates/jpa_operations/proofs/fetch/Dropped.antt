-- The first place at which an object stands in a list goes.
use Rattle.std.proofs.Common.{◌≡◌, ◌∙◌, ◌<◌, ◌≤◌, ◌+◌, ℕ, suc, Bool, true, false, List, [], ◌∷◌, length, cond, refl, ap, sym, arith, Some, None}
use Rattle.std.specs.Prelude.{◌==◌, ◌||◌, not, if◌then◌else◌, nat_lt}
use Rattle.std.specs.List.{list_any, position, position_or_len, remove}
use Rattle.std.proofs.lemmas.Bool.{ltb-true, ltb-false}
use Rattle.jpa_operations.specs.fetch.Members.{without_first}

-- what stands there at a place, and what is left without it
abbrev pub HasLeft : ℕ → List ℕ → List ℕ → Bool → Type 0
HasLeft k xs rest stood = (rest ≡ without_first k xs) × (stood ≡ list_any (λ x. x == k) xs)

module _ (k : ℕ) where
  abbrev first : List ℕ → ℕ
  first xs = position_or_len (λ x. x == k) xs

  removed : (xs : List ℕ) → first xs < length xs → HasLeft k xs (remove xs (first xs)) true
  removed [] l = absurd (omega arith)
  removed (x ∷ xs) l = by (x == k) l (removed xs)
    where
      by : (b : Bool) → cond (not b) (1 + first xs) 0 < suc (length xs) → (first xs < length xs → HasLeft k xs (remove xs (first xs)) true) →
          (remove (x ∷ xs) (cond (not b) (1 + first xs) 0) ≡ (if b then xs else x ∷ without_first k xs)) × (true ≡ (b || list_any (λ x. x == k) xs))
      by true g later = (refl, refl)
      by false g later =
          let r = later (omega arith) in
          let next : 1 + first xs ≡ suc (first xs) = omega arith in
          (ap (remove (x ∷ xs)) next ∙ ap (λ ys. x ∷ ys) r.0, r.1)

  kept : (xs : List ℕ) → length xs ≤ first xs → HasLeft k xs xs false
  kept [] l = (refl, refl)
  kept (x ∷ xs) l = by (x == k) l (kept xs)
    where
      by : (b : Bool) → suc (length xs) ≤ cond (not b) (1 + first xs) 0 → (length xs ≤ first xs → HasLeft k xs xs false) →
          (x ∷ xs ≡ (if b then xs else x ∷ without_first k xs)) × (false ≡ (b || list_any (λ x. x == k) xs))
      by true g later = absurd (omega arith)
      by false g later = let r = later (omega arith) in (ap (λ ys. x ∷ ys) r.0, r.1)

  pub left_some : (xs : List ℕ) (i : ℕ) → position (λ x. x == k) xs ≡ Some i → HasLeft k xs (remove xs i) true
  left_some xs i e = by (nat_lt (first xs) (length xs)) refl e
    where
      by : (b : Bool) → nat_lt (first xs) (length xs) ≡ b → cond b (Some (first xs)) None ≡ Some i → HasLeft k xs (remove xs i) true
      by true t g =
          let at' : first xs ≡ i = cc in
          let r = removed xs (ltb-true (first xs) (length xs) t) in
          (ap (remove xs) (sym at') ∙ r.0, r.1)
      by false t g = absurd cc

  pub left_none : (xs : List ℕ) → position (λ x. x == k) xs ≡ None → HasLeft k xs xs false
  left_none xs e = by (nat_lt (first xs) (length xs)) refl e
    where
      by : (b : Bool) → nat_lt (first xs) (length xs) ≡ b → cond b (Some (first xs)) None ≡ None → HasLeft k xs xs false
      by true t g = absurd cc
      by false t g = kept xs (ltb-false (first xs) (length xs) t)
