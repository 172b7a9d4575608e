-- Places that rise are places over which a walk may go, where each entry elsewhere is one of which nothing is made.
use Rattle.std.proofs.Common.{◌≡◌, ◌⊎◌, inl, inr, ℕ, zero, suc, ◌<◌, ◌≤◌, true, false, List, length, get_or, refl, ap, sym, subst, arith}
use Rattle.std.specs.Prelude.{◌==◌}
use Rattle.std.specs.List.{list_any}
use Rattle.std.proofs.lemmas.Bool.{cases_lt, eq-eqb}
use Rattle.std.proofs.lemmas.Bool.Decides.{nat_tests}
use Rattle.std.proofs.lemmas.List.{get_or_default, get_or_past}
use Rattle.std.proofs.lemmas.List.Folds.{list_any_at, list_any_none}
use Rattle.jpa_flush.specs.flush.Marked.{AreRising, from}

apart : (a b : ℕ) → (a < b) ⊎ (b < a) → (a == b) ≡ false
apart a b (inl l) = grind (arith, nat_tests)
apart a b (inr l) = grind (arith, nat_tests)

module _ {n : ℕ} {places : List ℕ} (rising : AreRising n places) where
  after_last : (i j k : ℕ) → j < i → i ≤ length places → from places i ≤ k → get_or places j 0 < k
  after_last zero j k l within f = absurd (omega (arith, l))
  after_last (suc i) j k l within f = by (cases_lt j i)
    where
      by : (j < i) ⊎ (i ≤ j) → get_or places j 0 < k
      by (inl less) = let r = rising.rises j i less (omega (arith, within)) in omega (arith, r, f)
      by (inr more) = let same : j ≡ i = omega (arith, more, l) in let at' = ap (λ m. get_or places m 0) same in omega (arith, f, at')

  before_next : (i j k : ℕ) → i ≤ j → j < length places → k < get_or places i n → k < get_or places j 0
  before_next i j k l within f = by (cases_lt i j)
    where
      here : i < length places → get_or places i n ≡ get_or places i 0
      here w = get_or_default places i n 0 w

      by : (i < j) ⊎ (j ≤ i) → k < get_or places j 0
      by (inl less) = let r = rising.rises i j less within in let s = here (omega (arith, less, within)) in omega (arith, r, s, f)
      by (inr more) =
          let same : i ≡ j = omega (arith, more, l) in
          let s = here (omega (arith, same, within)) in
          let at' = ap (λ m. get_or places m 0) same in
          omega (arith, s, at', f)

  -- what stands in a gap is none of the places
  pub between : (i k : ℕ) → i ≤ length places → from places i ≤ k → k < get_or places i n → list_any (λ p. p == k) places ≡ false
  between i k l f g = list_any_none (λ p. p == k) places (λ j d w. by j d w (cases_lt j i))
    where
      by : (j : ℕ) (d : ℕ) → j < length places → (j < i) ⊎ (i ≤ j) → (get_or places j d == k) ≡ false
      by j d w (inl less) = let a = after_last i j k less l f in let s = get_or_default places j d 0 w in apart (get_or places j d) k (inl (omega (arith, a, s)))
      by j d w (inr more) = let a = before_next i j k more w g in let s = get_or_default places j d 0 w in apart (get_or places j d) k (inr (omega (arith, a, s)))

  -- where the walk goes on
  pub from_rises : (i : ℕ) → i < length places → from places i ≤ get_or places i 0
  from_rises zero l = omega arith
  from_rises (suc i) l = let r = rising.rises i (suc i) (omega arith) l in omega (arith, r)

  pub from_within : (i : ℕ) → i ≤ length places → from places i ≤ n
  from_within zero l = omega arith
  from_within (suc i) l = let w = rising.within i (omega (arith, l)) in omega (arith, w)

  pub below : (i k : ℕ) → i ≤ length places → k < get_or places i n → k < n
  below i k l g = by (cases_lt i (length places))
    where
      by : (i < length places) ⊎ (length places ≤ i) → k < n
      by (inl less) = let w = rising.within i less in let s = get_or_default places i n 0 less in omega (arith, w, s, g)
      by (inr past) = subst (λ m. k < m) (get_or_past places i n past) g

  pub next_within : (i k : ℕ) → i < length places → k < get_or places i 0 → k < get_or places i n
  next_within i k l g = let s = get_or_default places i n 0 l in omega (arith, s, g)

  pub last_within : (k : ℕ) → k < n → k < get_or places (length places) n
  last_within k g = subst (λ m. k < m) (sym (get_or_past places (length places) n (omega arith))) g

  -- a place is one of the places
  pub is_place : (i : ℕ) → i < length places → list_any (λ p. p == get_or places i 0) places ≡ true
  is_place i l = list_any_at (λ p. p == get_or places i 0) places i 0 l (eq-eqb (get_or places i 0) (get_or places i 0) refl)
