-- What holds of all numbers below one.
use Rattle.std.proofs.Common.{◌≡◌, ◌∙◌, refl, ap, sym, arith, ℕ, zero, suc, ◌<◌, ◌≤◌, Bool, true, false, cond, slice_index_or, List, [], ◌∷◌, length, Option, None}
use Rattle.std.specs.Prelude.{◌&&◌}
use Rattle.std.proofs.lemmas.Bool.{and_parts}
use Rattle.jpql_run.proofs.Told.{below_next}
use Rattle.jpa_questions.specs.by_key.Own.{all_below}

pub below_at : (p : ℕ → Bool) (n k : ℕ) → k < n → all_below p n ≡ true → p k ≡ true
below_at p zero k l h = absurd (omega (arith, l))
below_at p (suc n) k l h =
    let parts = and_parts (p n) (all_below p n) h in
    below_next (λ k. p k ≡ true) n (λ k l. below_at p n k l parts.1) parts.0 k (omega (arith, l))

pub past : {A : Type 0} (xs : List A) (i : ℕ) (d : A) → length xs ≤ i → slice_index_or xs i d ≡ d
past [] zero d l = refl
past [] (suc i) d l = refl
past (x ∷ xs) zero d l = absurd (omega (arith, l))
past (x ∷ xs) (suc i) d l = past xs i d (omega (arith, l))

-- one fails
pub fails_below : (p : ℕ → Bool) (n k : ℕ) → k < n → p k ≡ false → all_below p n ≡ false
fails_below p n k l h = by (all_below p n) refl
  where
    by : (b : Bool) → all_below p n ≡ b → b ≡ false
    by true e = sym (below_at p n k l e) ∙ h
    by false e = refl

pub none_unless : {A : Type 0} (a b : Bool) (o : Option A) → b ≡ false → None ≡ cond (a && b) o None
none_unless true b o e = sym (ap (λ c. cond c o None) e)
none_unless false b o e = refl
