-- No claim is made twice where each entry's are distinct and those of different entries are apart, and back.
use Rattle.std.specs.Prelude.{◌≡◌, Bool, true, false, cond, not, ◌||◌, T, List, [], ◌∷◌, ◌++◌, Some, is_some}
use Rattle.std.specs.List.{list_all, list_any, flat_map}
use Rattle.std.proofs.Common.{refl, sym, ap, subst, ◌∙◌}
use Rattle.std.proofs.lemmas.Bool.{and_parts, and_from, true≢false, false≢true}
use Rattle.std.proofs.lemmas.List.Folds.{list_any-append}
use Rattle.std.specs.Option.{unwrap_or}
use Rattle.std.specs.Ordering.{is_eq}
use Rattle.std.specs.FinMap.Entries.{is_sorted, below_all, find}
use Rattle.jpa_value.specs.declared.value.Identity.{Identity}
use Rattle.jpa_value.specs.Value.{identity_cmp, same_identity}
use Rattle.std.specs.Cmp.{tied_itself}
use Rattle.jpa_value.proofs.Orders.{identity_exact, identity_total}
use Rattle.jpa_stored.specs.declared.objects.stored.Stored.{Stored}
use Rattle.jpa_stored.specs.objects.Sets.{StoredSet, stored_at, all_distinct}
use Rattle.jpa_stored.proofs.objects.Puts.{rest_sorted, first_found, later}
use Rattle.jpa_stored.proofs.objects.Entries.{t_first}
use Rattle.jpa_constraints.proofs.Each.{above, equal, holds_found, list_all_both}

-- ---- no claim twice: each entry's are distinct, and those of different entries are apart

module _ {C : Type 0} (eq : C → C → Bool) (back : (a b : C) → eq a b ≡ eq b a) (f : Identity × Stored → List C) where
  abbrev pub are_apart : List C → List C → Bool
  are_apart xs ys = list_all (λ x. not (list_any (eq x) ys)) xs

  distinct_joined : (xs ys : List C) → all_distinct eq xs ≡ true → all_distinct eq ys ≡ true → are_apart xs ys ≡ true → all_distinct eq (xs ++ ys) ≡ true
  distinct_joined [] ys h k a = k
  distinct_joined (x ∷ xs) ys h k a =
      let p = and_parts (not (list_any (eq x) xs)) (all_distinct eq xs) h in
      let q = and_parts (not (list_any (eq x) ys)) (are_apart xs ys) a in
      and_from (not (list_any (eq x) (xs ++ ys))) (all_distinct eq (xs ++ ys))
      (ap not (list_any-append (eq x) xs ys) ∙ neither (list_any (eq x) xs) (list_any (eq x) ys) p.0 q.0)
      (distinct_joined xs ys p.1 k q.1)
    where
      neither : (a b : Bool) → not a ≡ true → not b ≡ true → not (a || b) ≡ true
      neither true b h k = h
      neither false b h k = k

  apart_joined : (xs ys zs : List C) → are_apart xs ys ≡ true → are_apart xs zs ≡ true → are_apart xs (ys ++ zs) ≡ true
  apart_joined xs ys zs h k = list_all_both (λ x. not (list_any (eq x) ys)) (λ x. not (list_any (eq x) zs)) (λ x. not (list_any (eq x) (ys ++ zs))) (λ x a b. ap not (list_any-append (eq x) ys zs) ∙ neither (list_any (eq x) ys) (list_any (eq x) zs) a b) xs h k
    where
      neither : (a b : Bool) → not a ≡ true → not b ≡ true → not (a || b) ≡ true
      neither true b h k = h
      neither false b h k = k

  none_apart : (xs : List C) → are_apart xs [] ≡ true
  none_apart [] = refl
  none_apart (x ∷ xs) = none_apart xs

  apart_from_all : (xs : List C) (s : StoredSet) → T (is_sorted identity_cmp s) → ((q : Identity) (x : Stored) → stored_at s q ≡ Some x → are_apart xs (f (q, x)) ≡ true) → are_apart xs (flat_map f s) ≡ true
  apart_from_all xs [] h k = none_apart xs
  apart_from_all xs (e ∷ es) h k = apart_joined xs (f e) (flat_map f es) (k e.0 e.1 (first_found e es)) (apart_from_all xs es (rest_sorted e es h) (λ q x g. k q x (later e es h q x g)))

  pub no_claim_twice : (s : StoredSet) → T (is_sorted identity_cmp s) → ((q : Identity) (x : Stored) → stored_at s q ≡ Some x → all_distinct eq (f (q, x)) ≡ true) →
      ((q r : Identity) (x y : Stored) → same_identity q r ≡ false → stored_at s q ≡ Some x → stored_at s r ≡ Some y → are_apart (f (q, x)) (f (r, y)) ≡ true) → all_distinct eq (flat_map f s) ≡ true
  no_claim_twice [] h own apart = refl
  no_claim_twice (e ∷ es) h own apart =
      distinct_joined (f e) (flat_map f es) (own e.0 e.1 (first_found e es))
      (no_claim_twice es (rest_sorted e es h) (λ q x g. own q x (later e es h q x g)) (λ q r x y n g g'. apart q r x y n (later e es h q x g) (later e es h r y g')))
      (apart_from_all (f e) es (rest_sorted e es h) (λ q x g. apart e.0 q e.1 x (other q x g) (first_found e es) (later e es h q x g)))
    where
      other : (q : Identity) (x : Stored) → stored_at es q ≡ Some x → same_identity e.0 q ≡ false
      other q x g = above e.0 q x es (t_first (below_all identity_cmp e.0 es) _ h) g

-- ---- and back: of a set without a claim twice

module _ {C : Type 0} (eq : C → C → Bool) (back : (a b : C) → eq a b ≡ eq b a) (f : Identity × Stored → List C) where
  abbrev Apart : List C → List C → Type 0
  Apart xs ys = are_apart eq back f xs ys ≡ true

  parted : (xs ys : List C) → all_distinct eq (xs ++ ys) ≡ true → (all_distinct eq xs ≡ true) × (all_distinct eq ys ≡ true) × Apart xs ys
  parted [] ys h = (refl, h, refl)
  parted (x ∷ xs) ys h =
      let p = and_parts (not (list_any (eq x) (xs ++ ys))) (all_distinct eq (xs ++ ys)) h in
      let r = parted xs ys p.1 in
      let n = both_not (list_any (eq x) xs) (list_any (eq x) ys) (sym (ap not (list_any-append (eq x) xs ys)) ∙ p.0) in
      (and_from (not (list_any (eq x) xs)) (all_distinct eq xs) n.0 r.0, r.1, and_from (not (list_any (eq x) ys)) (are_apart eq back f xs ys) n.1 r.2)
    where
      both_not : (a b : Bool) → not (a || b) ≡ true → (not a ≡ true) × (not b ≡ true)
      both_not true b h = absurd (false≢true h)
      both_not false b h = (refl, h)

  pub each_own : (s : StoredSet) → all_distinct eq (flat_map f s) ≡ true → list_all (λ e. all_distinct eq (f e)) s ≡ true
  each_own [] h = refl
  each_own (e ∷ es) h = let p = parted (f e) (flat_map f es) h in and_from (all_distinct eq (f e)) (list_all (λ d. all_distinct eq (f d)) es) p.0 (each_own es p.1)

  apart_front : (xs ys zs : List C) → Apart xs (ys ++ zs) → Apart xs ys × Apart xs zs
  apart_front [] ys zs h = (refl, refl)
  apart_front (x ∷ xs) ys zs h =
      let p = and_parts (not (list_any (eq x) (ys ++ zs))) (are_apart eq back f xs (ys ++ zs)) h in
      let n = both_not (list_any (eq x) ys) (list_any (eq x) zs) (sym (ap not (list_any-append (eq x) ys zs)) ∙ p.0) in
      let r = apart_front xs ys zs p.1 in
      (and_from (not (list_any (eq x) ys)) (are_apart eq back f xs ys) n.0 r.0, and_from (not (list_any (eq x) zs)) (are_apart eq back f xs zs) n.1 r.1)
    where
      both_not : (a b : Bool) → not (a || b) ≡ true → (not a ≡ true) × (not b ≡ true)
      both_not true b h = absurd (false≢true h)
      both_not false b h = (refl, h)

  -- the claims of one are apart from those of each behind it
  pub apart_behind : (xs : List C) (s : StoredSet) → Apart xs (flat_map f s) → list_all (λ e. are_apart eq back f xs (f e)) s ≡ true
  apart_behind xs [] h = refl
  apart_behind xs (e ∷ es) h = let p = apart_front xs (f e) (flat_map f es) h in and_from (are_apart eq back f xs (f e)) (list_all (λ d. are_apart eq back f xs (f d)) es) p.0 (apart_behind xs es p.1)

  one_apart : (x : C) (ys : List C) → not (list_any (eq x) ys) ≡ true → list_all (λ y. not (eq y x || false)) ys ≡ true
  one_apart x [] h = refl
  one_apart x (y ∷ ys) h = let p = both_not (eq x y) (list_any (eq x) ys) h in and_from (not (eq y x || false)) (list_all (λ z. not (eq z x || false)) ys) (ap not (or_none (eq y x) ∙ back y x) ∙ p.0) (one_apart x ys p.1)
    where
      both_not : (a b : Bool) → not (a || b) ≡ true → (not a ≡ true) × (not b ≡ true)
      both_not true b h = absurd (false≢true h)
      both_not false b h = (refl, h)

      or_none : (b : Bool) → (b || false) ≡ b
      or_none true = refl
      or_none false = refl

  none_left : (ys : List C) → Apart ys []
  none_left [] = refl
  none_left (y ∷ ys) = none_left ys

  pub turned : (xs ys : List C) → Apart xs ys → Apart ys xs
  turned [] ys h = none_left ys
  turned (x ∷ xs) ys h =
      let p = and_parts (not (list_any (eq x) ys)) (are_apart eq back f xs ys) h in
      list_all_both (λ y. not (eq y x || false)) (λ y. not (list_any (eq y) xs)) (λ y. not (list_any (eq y) (x ∷ xs))) (λ y a b. joined (eq y x) (list_any (eq y) xs) a b) ys (one_apart x ys p.0) (turned xs ys p.1)
    where
      joined : (a b : Bool) → not (a || false) ≡ true → not b ≡ true → not (a || b) ≡ true
      joined true b h k = absurd (false≢true h)
      joined false b h k = k

  -- those of two objects are apart
  pub two_apart : (s : StoredSet) → T (is_sorted identity_cmp s) → all_distinct eq (flat_map f s) ≡ true → (q r : Identity) (x y : Stored) → same_identity q r ≡ false → stored_at s q ≡ Some x → stored_at s r ≡ Some y →
      Apart (f (q, x)) (f (r, y))
  two_apart [] h d q r x y n g g' = absurd (false≢true (ap is_some g))
  two_apart (e ∷ es) h d q r x y n g g' =
      let p = parted (f e) (flat_map f es) d in
      by_first q r x y n (is_eq (identity_cmp q e.0)) refl (is_eq (identity_cmp r e.0)) refl (apart_behind (f e) es p.2) (λ a b. two_apart es (rest_sorted e es h) p.1 q r x y n a b) g g'
    where
      is_first : (i : Identity) (z : Stored) → is_eq (identity_cmp i e.0) ≡ true → cond (is_eq (identity_cmp i e.0)) (Some e.1) (find identity_cmp i es) ≡ Some z → e ≡ (i, z)
      is_first i z t g = λ j. (sym (identity_exact i e.0 (equal (identity_cmp i e.0) t)) j, ap (λ o. unwrap_or o z) (sym (ap (λ b. cond b (Some e.1) (find identity_cmp i es)) t) ∙ g) j)

      is_later : (i : Identity) (z : Stored) → is_eq (identity_cmp i e.0) ≡ false → cond (is_eq (identity_cmp i e.0)) (Some e.1) (find identity_cmp i es) ≡ Some z → find identity_cmp i es ≡ Some z
      is_later i z t g = sym (ap (λ b. cond b (Some e.1) (find identity_cmp i es)) t) ∙ g

      by_first : (q r : Identity) (x y : Stored) → same_identity q r ≡ false → (b : Bool) → is_eq (identity_cmp q e.0) ≡ b → (c : Bool) → is_eq (identity_cmp r e.0) ≡ c →
          list_all (λ d. are_apart eq back f (f e) (f d)) es ≡ true → (find identity_cmp q es ≡ Some x → find identity_cmp r es ≡ Some y → Apart (f (q, x)) (f (r, y))) →
          cond (is_eq (identity_cmp q e.0)) (Some e.1) (find identity_cmp q es) ≡ Some x → cond (is_eq (identity_cmp r e.0)) (Some e.1) (find identity_cmp r es) ≡ Some y → Apart (f (q, x)) (f (r, y))
      by_first q r x y n true t true u all rest g g' =
          absurd (true≢false (sym (ap is_eq (tied_itself identity_total q)) ∙ ap (same_identity q) (identity_exact q e.0 (equal (identity_cmp q e.0) t) ∙ sym (identity_exact r e.0 (equal (identity_cmp r e.0) u))) ∙ n))
      by_first q r x y n true t false u all rest g g' = subst (λ d. Apart (f d) (f (r, y))) (is_first q x t g) (holds_found (λ d. are_apart eq back f (f e) (f d)) es all r y (is_later r y u g'))
      by_first q r x y n false t true u all rest g g' =
          turned (f (r, y)) (f (q, x)) (subst (λ d. Apart (f d) (f (q, x))) (is_first r y u g') (holds_found (λ d. are_apart eq back f (f e) (f d)) es all q x (is_later q x t g)))
      by_first q r x y n false t false u all rest g g' = rest (is_later q x t g) (is_later r y u g')
