-- Lists of numbers, joined from lists for each of some items, in which no number stands twice.
use Rattle.std.specs.Prelude.{◌≡◌, ℕ, Bool, true, false, ◌==◌, not, List, [], ◌∷◌, ◌++◌}
use Rattle.std.proofs.Common.{refl, sym, ap, subst, ◌∙◌, inl, inr, ◌⊎◌}
use Rattle.std.specs.List.{flat_map, list_any}
use Rattle.jpa_rows.proofs.laws.Facts.{and_first, and_second, and_both, true_false}
use Rattle.jpa_rows.proofs.laws.Elements.{Has, has_append, append_has, from_flat_map, into_flat_map}
use Rattle.jpa_rows.proofs.laws.Lists.{any_has, has_any}
use Rattle.jpa_object_rows.specs.meaning.Unambiguous.{are_distinct_numbers}
use Rattle.jpa_object_rows.proofs.meaning.Bytes.Orders.{are_same_numbers, same_number}
use Rattle.jpa_object_rows.proofs.meaning.Bytes.Tables.{distinct_rest, distinct_apart}
use Rattle.jpa_object_rows.proofs.meaning.Bytes.Climb.{NoDuplicates}

pub unless_any : (n : ℕ) (xs : List ℕ) → (Has xs n → ⊥) → not (list_any (λ b. n == b) xs) ≡ true
unless_any n xs none = by_test (list_any (λ b. n == b) xs) refl
  where
    by_test : (b : Bool) → list_any (λ b. n == b) xs ≡ b → not b ≡ true
    by_test true e = let r = any_has (λ b. n == b) xs e in absurd (none (subst (Has xs) (sym (are_same_numbers n r.0 r.2)) r.1))
    by_test false e = refl

none_first : (n : ℕ) (xs ys : List ℕ) → not (list_any (λ b. n == b) (xs ++ ys)) ≡ true → not (list_any (λ b. n == b) xs) ≡ true
none_first n xs ys h = unless_any n xs (λ k. true_false (sym h ∙ ap not (has_any (λ b. n == b) (xs ++ ys) n (append_has xs ys n (inl k)) (same_number n))))

pub distinct_first : (xs ys : List ℕ) → are_distinct_numbers (xs ++ ys) ≡ true → are_distinct_numbers xs ≡ true
distinct_first [] ys h = refl
distinct_first (x ∷ xs) ys h =
    let rest = not (list_any (λ b. x == b) (xs ++ ys)) in
    and_both (not (list_any (λ b. x == b) xs)) _ (none_first x xs ys (and_first rest _ h)) (distinct_first xs ys (and_second rest _ h))

pub distinct_joined : (xs ys : List ℕ) → are_distinct_numbers xs ≡ true → are_distinct_numbers ys ≡ true → ((n : ℕ) → Has xs n → Has ys n → ⊥) → are_distinct_numbers (xs ++ ys) ≡ true
distinct_joined [] ys h g apart = g
distinct_joined (x ∷ xs) ys h g apart =
    let own = not (list_any (λ b. x == b) xs) in
    and_both (not (list_any (λ b. x == b) (xs ++ ys))) _
    (unless_any x (xs ++ ys) (λ k. by_side (and_first own _ h) (has_append xs ys x k)))
    (distinct_joined xs ys (and_second own _ h) g (λ n p q. apart n (inr p) q))
  where
    by_side : not (list_any (λ b. x == b) xs) ≡ true → Has xs x ⊎ Has ys x → ⊥
    by_side e (inl k) = true_false (sym e ∙ ap not (has_any (λ b. x == b) xs x k (same_number x)))
    by_side e (inr k) = apart x (inl refl) k

module _ {A : Type 0} (f : A → List ℕ) where
  -- the lists of two items have nothing in common
  pub one_owner : (ys : List A) → are_distinct_numbers (flat_map f ys) ≡ true → (x y : A) (n : ℕ) → Has ys x → Has ys y → Has (f x) n → Has (f y) n → x ≡ y
  one_owner [] h x y n p q r s = absurd p
  one_owner (z ∷ zs) h x y n (inl p) (inl q) r s = sym p ∙ q
  one_owner (z ∷ zs) h x y n (inl p) (inr q) r s = absurd (distinct_apart (f z) (flat_map f zs) h n (subst (λ w. Has (f w) n) (sym p) r) (into_flat_map f zs y n q s))
  one_owner (z ∷ zs) h x y n (inr p) (inl q) r s = absurd (distinct_apart (f z) (flat_map f zs) h n (subst (λ w. Has (f w) n) (sym q) s) (into_flat_map f zs x n p r))
  one_owner (z ∷ zs) h x y n (inr p) (inr q) r s = one_owner zs (distinct_rest (f z) (flat_map f zs) h) x y n p q r s

  pub distinct_at : (ys : List A) → are_distinct_numbers (flat_map f ys) ≡ true → (x : A) → Has ys x → are_distinct_numbers (f x) ≡ true
  distinct_at [] h x p = absurd p
  distinct_at (z ∷ zs) h x (inl p) = subst (λ w. are_distinct_numbers (f w) ≡ true) p (distinct_first (f z) (flat_map f zs) h)
  distinct_at (z ∷ zs) h x (inr p) = distinct_at zs (distinct_rest (f z) (flat_map f zs) h) x p

-- fewer items, each once, with a part of what each has
pub distinct_within : (f g : ℕ → List ℕ) (ys : List ℕ) → are_distinct_numbers (flat_map g ys) ≡ true → ((c : ℕ) → are_distinct_numbers (g c) ≡ true → are_distinct_numbers (f c) ≡ true)
    → ((c n : ℕ) → Has (f c) n → Has (g c) n) → (xs : List ℕ) → NoDuplicates xs → ((c : ℕ) → Has xs c → Has ys c) → are_distinct_numbers (flat_map f xs) ≡ true
distinct_within f g ys h part within [] once sub = refl
distinct_within f g ys h part within (x ∷ xs) once sub =
    distinct_joined (f x) (flat_map f xs) (part x (distinct_at g ys h x (sub x (inl refl)))) (distinct_within f g ys h part within xs once.1 (λ c k. sub c (inr k)))
    (λ n p q.
    let r = from_flat_map f xs n q in
    once.0 (subst (Has xs) (sym (one_owner g ys h x r.0 n (sub x (inl refl)) (sub r.0 (inr r.1)) (within x n p) (within r.0 n r.2))) r.1))
