-- A test of two lists side by side, pair by pair.
use Rattle.std.proofs.Common.{◌≡◌, Bool, true, false, List, [], ◌∷◌, length, refl, sym, ◌∙◌}
use Rattle.std.specs.Prelude.{◌⊎◌}
use Rattle.std.proofs.Common.{inl, inr}
use Rattle.jpa_description.specs.history.Condition.{all_paired}

module _ {A B : Type 0} (p : A → B → Bool) where
  pub pair_fails : (xs : List A) (ys : List B) (x : A) (y : B) (front : List A) (others : List B) (whole : Bool) →
      xs ≡ x ∷ front → ys ≡ y ∷ others → p x y ≡ false → all_paired p xs ys ≡ whole → false ≡ whole
  pair_fails xs ys x y front others whole first second fails same = rw (first, second, fails) at same

  pub pair_passes : (xs : List A) (ys : List B) (x : A) (y : B) (front : List A) (others : List B) (whole : Bool) →
      xs ≡ x ∷ front → ys ≡ y ∷ others → p x y ≡ true → all_paired p xs ys ≡ whole → all_paired p front others ≡ whole
  pair_passes xs ys x y front others whole first second passes same = rw (first, second, passes) at same

  all_none : (xs : List A) (ys : List B) → (length xs ≡ 0) ⊎ (length ys ≡ 0) → all_paired p xs ys ≡ true
  all_none [] ys ends = refl
  all_none (x ∷ xs) [] ends = refl
  all_none (x ∷ xs) (y ∷ ys) (inl ends) = absurd (cc)
  all_none (x ∷ xs) (y ∷ ys) (inr ends) = absurd (cc)

  pub pairs_end : (xs : List A) (ys : List B) (whole : Bool) → (length xs ≡ 0) ⊎ (length ys ≡ 0) → all_paired p xs ys ≡ whole → true ≡ whole
  pairs_end xs ys whole ends same = sym (all_none xs ys ends) ∙ same
