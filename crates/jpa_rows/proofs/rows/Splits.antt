-- Entries in rising order, split in two by a test.
use Rattle.std.specs.Prelude.{◌≡◌, ℕ, zero, suc, ◌≤◌, Bool, true, false, T, List, [], ◌∷◌, length}
use Rattle.std.proofs.Common.{sym, ap, subst, arith, inl, inr, get_or, take, drop}
use Rattle.std.proofs.lemmas.Bool.{cases_lt}
use Rattle.std.specs.List.{AllByRecursion, AllWithin}
use Rattle.std.specs.List.Sorted.{IsPartitionedBy}
use Rattle.std.specs.Cmp.{IsTotalOrder}
use Rattle.std.specs.Ordering.{is_lt}
use Rattle.std.specs.FinMap.Entries.{is_sorted}
use Rattle.std.specs.declared.cmp.Ordering.{Ordering}
use Rattle.std.specs.declared.cmp.Ordering.TheVariants.{Less}
use Rattle.jpa_stored.proofs.objects.Entries.{rising_at}
use Rattle.jpa_rows.proofs.laws.Facts.{is_less, second_holds}

pub same_place : (i j : ℕ) → i ≤ j → j ≤ i → i ≡ j
same_place i j h g = omega arith

pub front_passes : {X : Type 0} (p : X → Bool) (xs : List X) (k : ℕ) → AllWithin (λ y. p y ≡ true) xs 0 k → AllByRecursion (λ x. p x ≡ true) (take k xs)
front_passes p xs zero h = tt
front_passes p [] (suc k) h = tt
front_passes p (x ∷ xs) (suc k) h = (h 0 x (omega arith) (omega arith), front_passes p xs k (λ j d a b. h (suc j) d (omega arith) (omega arith)))

pub rest_fails : {X : Type 0} (p : X → Bool) (xs : List X) (k : ℕ) → AllWithin (λ y. p y ≡ false) xs k (length xs) → AllByRecursion (λ x. p x ≡ false) (drop k xs)
rest_fails p [] zero h = tt
rest_fails p [] (suc k) h = tt
rest_fails p (x ∷ xs) zero h = (h 0 x (omega arith) (omega arith), rest_fails p xs zero (λ j d a b. h (suc j) d (omega arith) (omega arith)))
rest_fails p (x ∷ xs) (suc k) h = rest_fails p xs k (λ j d a b. h (suc j) d (omega arith) (omega arith))

pub all_then : {X : Type 0} (P Q : X → Type 0) → ((x : X) → P x → Q x) → (xs : List X) → AllByRecursion P xs → AllByRecursion Q xs
all_then P Q f [] h = tt
all_then P Q f (x ∷ xs) h = (f x h.0, all_then P Q f xs h.1)

module _ {K X : Type 0} {R : K → K → Ordering} (o : IsTotalOrder R) where
  -- no entry before a key comes after one that is not
  pub parted : (es : List (K × X)) → T (is_sorted R es) → (k : K) → IsPartitionedBy (λ e. is_lt (R e.0 k)) es
  parted es sorted k i j d h l less_j = elim (cases_lt i j) [
    | inl less ↦
        let here : R (get_or es j d).0 k ≡ Less = is_less _ (subst T (sym less_j) tt) in
        ap is_lt (o.trans (get_or es i d).0 (get_or es j d).0 k (rising_at o es i j d sorted less l) here)
    | inr more ↦ subst (λ n. is_lt (R (get_or es n d).0 k) ≡ true) (sym (same_place i j h more)) less_j
  ]

pub rest_rises : {K X : Type 0} (R : K → K → Ordering) (es : List (K × X)) (k : ℕ) → T (is_sorted R es) → T (is_sorted R (drop k es))
rest_rises R es zero h = h
rest_rises R [] (suc k) h = tt
rest_rises R (e ∷ es) (suc k) h = rest_rises R es k (second_holds _ _ h)
