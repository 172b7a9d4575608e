-- The first of a sorted list stay the same, whatever stands behind them, when one more is put in.
use Rattle.std.proofs.Common.{◌≡◌, ◌∙◌, ap, sym, refl, Bool, true, false, not, ◌&&◌, cond, List, [], ◌∷◌, ℕ, zero, suc, take, drop, length, get_or, arith, ◌≤◌, ◌<◌, true≢false}
use Rattle.std.specs.List.{AllByRecursion, AllWithin, insert}
use Rattle.std.specs.List.Sorted.{IsPartitionedBy}
use Rattle.std.specs.Cmp.{IsStrictWeakOrder}
use Rattle.std.proofs.lemmas.List.{take-take}
use Rattle.jpql_meaning.proofs.plan.Stable.{put, put_all, none_below, is_sorted}

both_true : (a b : Bool) → (a && b) ≡ true → (a ≡ true) × (b ≡ true)
both_true true b e = (refl, e)
both_true false b e = absurd (true≢false (sym e))

not_true : (a : Bool) → not a ≡ true → a ≡ false
not_true true e = absurd (true≢false (sym e))
not_true false e = refl

not_false : (a : Bool) → not a ≡ false → a ≡ true
not_false true e = refl
not_false false e = absurd (true≢false e)

one_before : {X : Type 0} (n : ℕ) (x : X) (xs : List X) → take n (x ∷ take n xs) ≡ take n (x ∷ xs)
one_before zero x xs = refl
one_before (suc n) x xs = ap (λ ys. x ∷ ys) (take-take n (suc n) xs (omega arith))

module _ {X : Type 0} (lt : X → X → Bool) where
  next_front : (n : ℕ) (r x : X) (xs : List X) (b : Bool) → lt r x ≡ b → take n (put lt r (take n xs)) ≡ take n (put lt r xs)
      → take (suc n) (put lt r (x ∷ take n xs)) ≡ take (suc n) (put lt r (x ∷ xs))
  next_front n r x xs true e h =
      ap (λ c. take (suc n) (cond c (r ∷ x ∷ take n xs) (x ∷ put lt r (take n xs)))) e
      ∙ ap (λ ys. r ∷ ys) (one_before n x xs)
      ∙ sym (ap (λ c. take (suc n) (cond c (r ∷ x ∷ xs) (x ∷ put lt r xs))) e)
  next_front n r x xs false e h =
      ap (λ c. take (suc n) (cond c (r ∷ x ∷ take n xs) (x ∷ put lt r (take n xs)))) e
      ∙ ap (λ ys. x ∷ ys) h
      ∙ sym (ap (λ c. take (suc n) (cond c (r ∷ x ∷ xs) (x ∷ put lt r xs))) e)

  -- what is put in finds its place among the first n as among all
  put_front : (n : ℕ) (r : X) (xs : List X) → take n (put lt r (take n xs)) ≡ take n (put lt r xs)
  put_front zero r xs = refl
  put_front (suc n) r [] = refl
  put_front (suc n) r (x ∷ xs) = next_front n r x xs (lt r x) refl (put_front n r xs)

  -- so do all that are put in, in turn
  pub all_front : (n : ℕ) (xs ys rs : List X) → take n xs ≡ take n ys → take n (put_all lt xs rs) ≡ take n (put_all lt ys rs)
  all_front n xs ys [] e = e
  all_front n xs ys (r ∷ rs) e =
      all_front n (put lt r xs) (put lt r ys) rs
      (sym (put_front n r xs) ∙ ap (λ zs. take n (put lt r zs)) e ∙ put_front n r ys)

  -- it stands behind those that it doesn't precede
  pub put_inserts : (r : X) (xs : List X) (k : ℕ) → AllByRecursion (λ x. not (lt r x) ≡ true) (take k xs) → AllByRecursion (λ x. not (lt r x) ≡ false) (drop k xs)
      → put lt r xs ≡ insert xs k r
  put_inserts r [] zero a b = refl
  put_inserts r [] (suc k) a b = refl
  put_inserts r (x ∷ xs) zero a b = ap (λ c. cond c (r ∷ x ∷ xs) (x ∷ put lt r xs)) (not_false (lt r x) b.0)
  put_inserts r (x ∷ xs) (suc k) a b =
      ap (λ c. cond c (r ∷ x ∷ xs) (x ∷ put lt r xs)) (not_true (lt r x) a.0) ∙ ap (λ ys. x ∷ ys) (put_inserts r xs k a.1 b)

  none_at : (x : X) (xs : List X) (j : ℕ) (d : X) → none_below lt x xs ≡ true → j < length xs → lt (get_or xs j d) x ≡ false
  none_at x [] j d h l = absurd (omega (arith, l))
  none_at x (w ∷ ws) zero d h l = not_true (lt w x) (both_true (not (lt w x)) (none_below lt x ws) h).0
  none_at x (w ∷ ws) (suc j) d h l = none_at x ws j d (both_true (not (lt w x)) (none_below lt x ws) h).1 (omega (arith, l))

  none_front : (x : X) (n : ℕ) (ws : List X) → none_below lt x ws ≡ true → none_below lt x (take n ws) ≡ true
  none_front x zero ws h = refl
  none_front x (suc n) [] h = refl
  none_front x (suc n) (w ∷ ws) h =
      let parts = both_true (not (lt w x)) (none_below lt x ws) h in
      ap (λ c. c && none_below lt x (take n ws)) parts.0 ∙ none_front x n ws parts.1

  -- the first n are sorted too
  pub sorted_front : (n : ℕ) (xs : List X) → is_sorted lt xs ≡ true → is_sorted lt (take n xs) ≡ true
  sorted_front zero xs h = refl
  sorted_front (suc n) [] h = refl
  sorted_front (suc n) (x ∷ xs) h =
      let parts = both_true (none_below lt x xs) (is_sorted lt xs) h in
      ap (λ c. c && is_sorted lt (take n xs)) (none_front x n xs parts.0) ∙ sorted_front n xs parts.1

  module _ (o : IsStrictWeakOrder lt) where
    -- sorted, those that it doesn't precede stand before those that it does
    pub parted : (r : X) (xs : List X) → is_sorted lt xs ≡ true → IsPartitionedBy (λ x. not (lt r x)) xs
    parted r [] h i j d le l e = absurd (omega (arith, l))
    parted r (x ∷ xs) h zero zero d le l e = e
    parted r (x ∷ xs) h (suc i) zero d le l e = absurd (omega (arith, le))
    parted r (x ∷ xs) h zero (suc j) d le l e =
        let parts = both_true (none_below lt x xs) (is_sorted lt xs) h in
        ap not (o.chain r (get_or xs j d) x (not_true (lt r (get_or xs j d)) e) (none_at x xs j d parts.0 (omega (arith, l))))
    parted r (x ∷ xs) h (suc i) (suc j) d le l e =
        parted r xs (both_true (none_below lt x xs) (is_sorted lt xs) h).1 i j d (omega (arith, le)) (omega (arith, l)) e

-- what is put in behind the first n leaves them
pub insert_behind : {X : Type 0} (n k : ℕ) (xs : List X) (r : X) → n ≤ k → k ≤ length xs → take n (insert xs k r) ≡ take n xs
insert_behind zero k xs r le l = refl
insert_behind (suc n) zero xs r le l = absurd (omega (arith, le))
insert_behind (suc n) (suc k) [] r le l = absurd (omega (arith, l))
insert_behind (suc n) (suc k) (x ∷ xs) r le l = ap (λ ys. x ∷ ys) (insert_behind n k xs r (omega (arith, le)) (omega (arith, l)))

-- ---- what a test says place by place

pub front_passes : {X : Type 0} (p : X → Bool) (xs : List X) (k : ℕ) → AllWithin (λ y. p y ≡ true) xs 0 k → AllByRecursion (λ x. p x ≡ true) (take k xs)
front_passes p xs zero h = tt
front_passes p [] (suc k) h = tt
front_passes p (x ∷ xs) (suc k) h = (h 0 x (omega arith) (omega arith), front_passes p xs k (λ j d a b. h (suc j) d (omega arith) (omega arith)))

pub rest_fails : {X : Type 0} (p : X → Bool) (xs : List X) (k : ℕ) → AllWithin (λ y. p y ≡ false) xs k (length xs) → AllByRecursion (λ x. p x ≡ false) (drop k xs)
rest_fails p [] zero h = tt
rest_fails p [] (suc k) h = tt
rest_fails p (x ∷ xs) zero h = (h 0 x (omega arith) (omega arith), rest_fails p xs zero (λ j d a b. h (suc j) d (omega arith) (omega arith)))
rest_fails p (x ∷ xs) (suc k) h = rest_fails p xs k (λ j d a b. h (suc j) d (omega arith) (omega arith))
