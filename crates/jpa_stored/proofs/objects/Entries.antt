-- Entries in rising order: where a key is found, and what a change at that place makes of them.
use Rattle.std.specs.Prelude.{◌≡◌, ℕ, zero, suc, ◌<◌, ◌≤◌, Bool, true, false, cond, not, ◌&&◌, T, List, [], ◌∷◌, length, Some, None}
use Rattle.std.proofs.Common.{refl, sym, ap, subst, ◌∙◌, arith, get_or, set}
use Rattle.std.specs.declared.cmp.Ordering.{Ordering}
use Rattle.std.specs.declared.cmp.Ordering.TheVariants.{Less, Equal, Greater}
use Rattle.std.specs.Ordering.{is_lt, is_eq, ordering_reverse, ordering_index}
use Rattle.std.specs.Cmp.{IsTotalOrder}
use Rattle.std.specs.FinMap.{IsAntisymmetric}
use Rattle.std.specs.FinMap.Entries.{by_order, put, where_key, find, below_all, is_sorted}
use Rattle.std.specs.List.{insert, remove}
use Rattle.jpa_stored.specs.objects.Places.{IsAt, IsGap}

pub t_first : (a b : Bool) → T (a && b) → T a
t_first true b p = tt
t_first false b p = p

pub t_second : (a b : Bool) → T (a && b) → T b
t_second true b p = p
t_second false b p = absurd p

t_both : (a b : Bool) → T a → T b → T (a && b)
t_both true b p q = q
t_both false b p q = absurd p

pub less : (r : Ordering) → T (is_lt r) → r ≡ Less
less Less p = refl
less Equal p = absurd p
less Greater p = absurd p

nothing_at : (i : ℕ) → i < 0 → ⊥
nothing_at i h = omega arith

pub earlier : (i n : ℕ) → suc i < suc n → i < n
earlier i n h = omega arith

module _ {K : Type 0} {R : K → K → Ordering} (o : IsTotalOrder R) where
  flipped : (x y : K) (r : Ordering) → R x y ≡ r → R y x ≡ ordering_reverse r
  flipped x y r e = o.antisymm y x ∙ ap ordering_reverse e

  -- what is below a key that compares so with k compares with k no higher
  pub no_higher : (x y k : K) (r : Ordering) → R x y ≡ Less → R y k ≡ r → ordering_index (R x k) ≤ ordering_index r
  no_higher x y k Less e f = let same : R x k ≡ Less = o.trans x y k e f in subst (λ s. ordering_index s ≤ 0) (sym same) (omega arith)
  no_higher x y k Equal e f =
      let same : R x k ≡ Less = flipped k x Greater (sym (o.congr y k x f) ∙ flipped x y Less e) in
      subst (λ s. ordering_index s ≤ 1) (sym same) (omega arith)
  no_higher x y k Greater e f = top (R x k)
    where
      top : (s : Ordering) → ordering_index s ≤ 2
      top Less = omega arith
      top Equal = omega arith
      top Greater = omega arith

module _ {K X : Type 0} {R : K → K → Ordering} (o : IsTotalOrder R) where
  below_at : (x : K) (es : List (K × X)) (i : ℕ) (d : K × X) → T (below_all R x es) → i < length es → R x (get_or es i d).0 ≡ Less
  below_at x [] i d h l = absurd (nothing_at i l)
  below_at x (e ∷ es) zero d h l = less (R x e.0) (t_first (is_lt (R x e.0)) _ h)
  below_at x (e ∷ es) (suc i) d h l = below_at x es i d (t_second (is_lt (R x e.0)) _ h) (earlier i (length es) l)

  pub rising_at : (es : List (K × X)) (i j : ℕ) (d : K × X) → T (is_sorted R es) → i < j → j < length es → R (get_or es i d).0 (get_or es j d).0 ≡ Less
  rising_at [] i j d h l m = absurd (nothing_at j m)
  rising_at (e ∷ es) i zero d h l m = absurd (nothing_at i l)
  rising_at (e ∷ es) zero (suc j) d h l m = below_at e.0 es j d (t_first (below_all R e.0 es) _ h) (earlier j (length es) m)
  rising_at (e ∷ es) (suc i) (suc j) d h l m = rising_at es i j d (t_second (below_all R e.0 es) _ h) (earlier i j l) (earlier j (length es) m)

  -- ---- the key stands at this place

  -- no key before the place ties
  above_first : (e : K × X) (es : List (K × X)) (k : K) (i : ℕ) → T (is_sorted R (e ∷ es)) → IsAt R (e ∷ es) k (suc i) → R k e.0 ≡ Greater
  above_first e es k i h a =
      let l = earlier i (length es) a.within in
      let up : R e.0 (get_or es i e).0 ≡ Less = below_at e.0 es i e (t_first (below_all R e.0 es) _ h) l in
      let tied : R (get_or es i e).0 k ≡ Equal = a.tied e in
      sym (o.congr (get_or es i e).0 k e.0 tied) ∙ flipped o e.0 (get_or es i e).0 Less up

  at_tail : (e : K × X) (es : List (K × X)) (k : K) (i : ℕ) → IsAt R (e ∷ es) k (suc i) → IsAt R es k i
  at_tail e es k i a = record { within = earlier i (length es) a.within; tied = a.tied }

  pub find_at : (es : List (K × X)) (k : K) (i : ℕ) (d : K × X) → T (is_sorted R es) → IsAt R es k i → find R k es ≡ Some (get_or es i d).1
  find_at [] k i d h a = absurd (nothing_at i a.within)
  find_at (e ∷ es) k zero d h a = ap (λ r. cond (is_eq r) (Some e.1) (find R k es)) (flipped o e.0 k Equal (a.tied e))
  find_at (e ∷ es) k (suc i) d h a =
      ap (λ r. cond (is_eq r) (Some e.1) (find R k es)) (above_first e es k i h a)
      ∙ find_at es k i d (t_second (below_all R e.0 es) _ h) (at_tail e es k i a)

  pub put_at : IsAntisymmetric R → (es : List (K × X)) (k : K) (v : X) (i : ℕ) → T (is_sorted R es) → IsAt R es k i → put R k v es ≡ set es i (k, v)
  put_at exact [] k v i h a = absurd (nothing_at i a.within)
  put_at exact (e ∷ es) k v zero h a =
      ap (λ r. by_order r ((k, v) ∷ e ∷ es) ((e.0, v) ∷ es) (e ∷ put R k v es)) (flipped o e.0 k Equal (a.tied e))
      ∙ ap (λ x. (x, v) ∷ es) (exact e.0 k (a.tied e))
  put_at exact (e ∷ es) k v (suc i) h a =
      ap (λ r. by_order r ((k, v) ∷ e ∷ es) ((e.0, v) ∷ es) (e ∷ put R k v es)) (above_first e es k i h a)
      ∙ ap (λ x. e ∷ x) (put_at exact es k v i (t_second (below_all R e.0 es) _ h) (at_tail e es k i a))

  -- all that stand above pass a test that only the key fails
  kept_above : (k x : K) (p : K → Bool) → ((y : K) → p y ≡ not (is_eq (R y k))) → (es : List (K × X)) → R x k ≡ Equal → T (below_all R x es) → where_key R p es ≡ es
  kept_above k x p tests [] e h = refl
  kept_above k x p tests (y ∷ es) e h =
      let up : R x y.0 ≡ Less = less (R x y.0) (t_first (is_lt (R x y.0)) _ h) in
      let apart : R y.0 k ≡ Greater = flipped o k y.0 Less (sym (o.congr x k y.0 e) ∙ up) in
      ap (λ b. cond b (y ∷ where_key R p es) (where_key R p es)) (tests y.0 ∙ ap (λ r. not (is_eq r)) apart)
      ∙ ap (λ rest. y ∷ rest) (kept_above k x p tests es e (t_second (is_lt (R x y.0)) _ h))

  pub without_at : (k : K) (p : K → Bool) → ((y : K) → p y ≡ not (is_eq (R y k))) → (es : List (K × X)) (i : ℕ) → T (is_sorted R es) → IsAt R es k i → where_key R p es ≡ remove es i
  without_at k p tests [] i h a = absurd (nothing_at i a.within)
  without_at k p tests (e ∷ es) zero h a =
      ap (λ b. cond b (e ∷ where_key R p es) (where_key R p es)) (tests e.0 ∙ ap (λ r. not (is_eq r)) (a.tied e))
      ∙ kept_above k e.0 p tests es (a.tied e) (t_first (below_all R e.0 es) _ h)
  without_at k p tests (e ∷ es) (suc i) h a =
      ap (λ b. cond b (e ∷ where_key R p es) (where_key R p es)) (tests e.0 ∙ ap (λ r. not (is_eq r)) (flipped o k e.0 Greater (above_first e es k i h a)))
      ∙ ap (λ rest. e ∷ rest) (without_at k p tests es i (t_second (below_all R e.0 es) _ h) (at_tail e es k i a))

  -- ---- the key stands nowhere, and would stand at this place

  gap_tail : (e : K × X) (es : List (K × X)) (k : K) (i : ℕ) → IsGap R (e ∷ es) k (suc i) → IsGap R es k i
  gap_tail e es k i g = record {
    within = let w = g.within in omega arith;
    below = λ j d l. g.below (suc j) d (omega arith);
    above = λ j d l m. g.above (suc j) d (omega arith) (omega arith);
  }

  gap_after : (e : K × X) (es : List (K × X)) (k : K) → IsGap R (e ∷ es) k 0 → IsGap R es k 0
  gap_after e es k g = record {
    within = omega arith;
    below = λ j d l. absurd (nothing_at j l);
    above = λ j d l m. g.above (suc j) d (omega arith) (omega arith);
  }

  first_below : (e : K × X) (es : List (K × X)) (k : K) (i : ℕ) → IsGap R (e ∷ es) k (suc i) → R e.0 k ≡ Less
  first_below e es k i g = g.below 0 e (omega arith)

  first_above : (e : K × X) (es : List (K × X)) (k : K) → IsGap R (e ∷ es) k 0 → R e.0 k ≡ Greater
  first_above e es k g = g.above 0 e (omega arith) (omega arith)

  no_place : (es : List (K × X)) (k : K) (i : ℕ) → length es ≡ 0 → IsGap R es k (suc i) → ⊥
  no_place es k i e g = let w = g.within in omega arith

  pub find_gap : (es : List (K × X)) (k : K) (i : ℕ) → IsGap R es k i → find R k es ≡ None
  find_gap [] k i g = refl
  find_gap (e ∷ es) k zero g = ap (λ r. cond (is_eq r) (Some e.1) (find R k es)) (flipped o e.0 k Greater (first_above e es k g)) ∙ find_gap es k 0 (gap_after e es k g)
  find_gap (e ∷ es) k (suc i) g = ap (λ r. cond (is_eq r) (Some e.1) (find R k es)) (flipped o e.0 k Less (first_below e es k i g)) ∙ find_gap es k i (gap_tail e es k i g)

  pub put_gap : (es : List (K × X)) (k : K) (v : X) (i : ℕ) → IsGap R es k i → put R k v es ≡ insert es i (k, v)
  put_gap [] k v zero g = refl
  put_gap [] k v (suc i) g = absurd (no_place [] k i refl g)
  put_gap (e ∷ es) k v zero g = ap (λ r. by_order r ((k, v) ∷ e ∷ es) ((e.0, v) ∷ es) (e ∷ put R k v es)) (flipped o e.0 k Greater (first_above e es k g))
  put_gap (e ∷ es) k v (suc i) g =
      ap (λ r. by_order r ((k, v) ∷ e ∷ es) ((e.0, v) ∷ es) (e ∷ put R k v es)) (flipped o e.0 k Less (first_below e es k i g))
      ∙ ap (λ x. e ∷ x) (put_gap es k v i (gap_tail e es k i g))

  pub without_gap : (k : K) (p : K → Bool) → ((y : K) → p y ≡ not (is_eq (R y k))) → (es : List (K × X)) (i : ℕ) → IsGap R es k i → where_key R p es ≡ es
  without_gap k p tests [] i g = refl
  without_gap k p tests (e ∷ es) zero g =
      ap (λ b. cond b (e ∷ where_key R p es) (where_key R p es)) (tests e.0 ∙ ap (λ r. not (is_eq r)) (first_above e es k g))
      ∙ ap (λ rest. e ∷ rest) (without_gap k p tests es 0 (gap_after e es k g))
  without_gap k p tests (e ∷ es) (suc i) g =
      ap (λ b. cond b (e ∷ where_key R p es) (where_key R p es)) (tests e.0 ∙ ap (λ r. not (is_eq r)) (first_below e es k i g))
      ∙ ap (λ rest. e ∷ rest) (without_gap k p tests es i (gap_tail e es k i g))
