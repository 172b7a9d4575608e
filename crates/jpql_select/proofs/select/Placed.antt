-- Where groups stand, and one more tuple among them.
use Rattle.std.proofs.Common.{◌≡◌, ◌∙◌, ap, sym, refl, ℕ, zero, suc, ◌<◌, ◌≤◌, Bool, true, false, cond, List, [], ◌∷◌, ◌++◌, length, Option, Some, None, option_map, unwrap_or, slice_index_or, slice_set, subst, arith}
use Rattle.std.specs.Cmp.{IsEquivalence, eq_by_cmp_equiv}
use Rattle.std.specs.Global.{Vec}
use Rattle.std.proofs.lemmas.Bool.{false≢true}
use Rattle.std.proofs.lemmas.List.{length-map}
use Rattle.jpql_meaning.specs.declared.eval.datum.Datum.{Datum}
use Rattle.jpql_meaning.specs.eval.Data.{same_data}
use Rattle.jpql_meaning.specs.plan.Paths.{Tuple}
use Rattle.jpql_meaning.specs.plan.Selection.{put_tuple, put_tuples}
use Rattle.jpql_select.specs.select.Keys.{data_total}
use Rattle.jpql_select.proofs.select.Keys.{same_by_cmp}
use Rattle.jpql_select.specs.select.Groups.{groups_in, add_at, begins_with, place_of, all_some, AreApart}

pub added : {T : Type 0} (gs : List (Vec T)) (i : ℕ) (x y : Vec T) (t : T) → i < length gs → x ≡ slice_index_or gs i x → y.items ≡ x.items ++ t ∷ []
    → groups_in (slice_set gs i y) ≡ add_at (groups_in gs) i t
added [] i x y t l at e = absurd (omega (arith, l))
added (g ∷ gs) zero x y t l at e = ap (λ h. h ∷ groups_in gs) (e ∙ ap (λ (v : Vec _). v.items ++ t ∷ []) at)
added (g ∷ gs) (suc i) x y t l at e = ap (λ more. g.items ∷ more) (added gs i x y t (omega (arith, l)) at e)

same_laws : IsEquivalence same_data
same_laws = record {
  refl = λ x. sym (same_by_cmp x x) ∙ (eq_by_cmp_equiv data_total).refl x;
  symm = λ x y. sym (same_by_cmp x y) ∙ (eq_by_cmp_equiv data_total).symm x y ∙ same_by_cmp y x;
  congr = λ x y z e. sym (same_by_cmp x z) ∙ (eq_by_cmp_equiv data_total).congr x y z (same_by_cmp x y ∙ e) ∙ same_by_cmp y z;
}

module _ (key : Tuple → List Datum) where
  -- ---- a group of the key is there

  is_none_of : {A : Type 0} → Option A → Bool
  is_none_of None = true
  is_none_of (Some a) = false

  suc_none : (o : Option ℕ) → option_map suc o ≡ None → o ≡ None
  unfolding is_none_of
  suc_none None e = refl
  suc_none (Some n) e = absurd (false≢true (ap is_none_of e))

  suc_some : (o : Option ℕ) (i : ℕ) → option_map suc o ≡ Some (suc i) → o ≡ Some i
  suc_some None i e = cc
  suc_some (Some n) i e = cc

  suc_zero : (o : Option ℕ) → option_map suc o ≡ Some 0 → ⊥
  suc_zero None e = cc
  suc_zero (Some n) e = cc

  found_by : (b : Bool) (o : Option ℕ) (i : ℕ) → cond b (Some 0) (option_map suc o) ≡ Some (suc i) → (b ≡ false) × (o ≡ Some i)
  found_by true o i e = absurd (cc)
  found_by false o i e = (refl, suc_some o i e)

  first_by : (b : Bool) (o : Option ℕ) → cond b (Some 0) (option_map suc o) ≡ Some 0 → b ≡ true
  first_by true o e = refl
  first_by false o e = absurd (suc_zero o e)

  pub none_by : (b : Bool) (o : Option ℕ) → cond b (Some 0) (option_map suc o) ≡ None → (b ≡ false) × (o ≡ None)
  none_by true o e = absurd (cc)
  none_by false o e = (refl, suc_none o e)

  pub put_there : (t : Tuple) (gs : List (List Tuple)) (i : ℕ) → all_some gs ≡ true → place_of key (key t) gs ≡ Some i → put_tuple key t gs ≡ add_at gs i t
  put_there t [] i s h = cc
  put_there t ([] ∷ gs) i s h = absurd (false≢true s)
  put_there t ((one ∷ more) ∷ gs) zero s h =
      ap (λ b. cond b ((one ∷ more ++ t ∷ []) ∷ gs) ((one ∷ more) ∷ put_tuple key t gs)) (first_by (same_data (key one) (key t)) (place_of key (key t) gs) h)
  put_there t ((one ∷ more) ∷ gs) (suc i) s h =
      let by = found_by (same_data (key one) (key t)) (place_of key (key t) gs) i h in
      ap (λ b. cond b ((one ∷ more ++ t ∷ []) ∷ gs) ((one ∷ more) ∷ put_tuple key t gs)) by.0
      ∙ ap (λ hs. (one ∷ more) ∷ hs) (put_there t gs i s by.1)

  pub place_below : (q : List Datum) (gs : List (List Tuple)) (i : ℕ) → place_of key q gs ≡ Some i → i < length gs
  place_below q [] i h = absurd (cc)
  place_below q (g ∷ gs) zero h = omega arith
  place_below q (g ∷ gs) (suc i) h =
      let by = found_by (begins_with key q g) (place_of key q gs) i h in
      let below = place_below q gs i by.1 in omega (arith, below)

  pub place_within : (q : List Datum) (groups : List (Vec Tuple)) (i : ℕ) → place_of key q (groups_in groups) ≡ Some i → i < length groups
  place_within q groups i h = subst (λ n. i < n) (length-map groups (λ g. g.items)) (place_below q (groups_in groups) i h)

  -- the first of each group stays
  pub place_stays : (q : List Datum) (gs : List (List Tuple)) (i : ℕ) (t : Tuple) → all_some gs ≡ true → place_of key q (add_at gs i t) ≡ place_of key q gs
  place_stays q [] i t s = refl
  place_stays q ([] ∷ gs) i t s = absurd (false≢true s)
  place_stays q ((one ∷ more) ∷ gs) zero t s = refl
  place_stays q ((one ∷ more) ∷ gs) (suc i) t s = ap (λ o. cond (same_data (key one) q) (Some 0) (option_map suc o)) (place_stays q gs i t s)

  pub some_stay : (gs : List (List Tuple)) (i : ℕ) (t : Tuple) → all_some gs ≡ true → all_some (add_at gs i t) ≡ true
  some_stay [] i t s = s
  some_stay ([] ∷ gs) i t s = absurd (false≢true s)
  some_stay ((one ∷ more) ∷ gs) zero t s = s
  some_stay ((one ∷ more) ∷ gs) (suc i) t s = some_stay gs i t s

  -- ---- none is there

  pub put_new : (t : Tuple) (gs : List (List Tuple)) → all_some gs ≡ true → place_of key (key t) gs ≡ None → put_tuple key t gs ≡ gs ++ (t ∷ []) ∷ []
  put_new t [] s h = refl
  put_new t ([] ∷ gs) s h = absurd (false≢true s)
  put_new t ((one ∷ more) ∷ gs) s h =
      let by = none_by (same_data (key one) (key t)) (place_of key (key t) gs) h in
      ap (λ b. cond b ((one ∷ more ++ t ∷ []) ∷ gs) ((one ∷ more) ∷ put_tuple key t gs)) by.0
      ∙ ap (λ hs. (one ∷ more) ∷ hs) (put_new t gs s by.1)

  pub some_more : (gs : List (List Tuple)) (t : Tuple) → all_some gs ≡ true → all_some (gs ++ (t ∷ []) ∷ []) ≡ true
  some_more [] t s = refl
  some_more ([] ∷ gs) t s = absurd (false≢true s)
  some_more ((one ∷ more) ∷ gs) t s = some_more gs t s

  apart : (a k q : List Datum) (b : Bool) → same_data a q ≡ b → same_data a k ≡ false → same_data k q ≡ true → same_data a q ≡ false
  apart a k q true e n h =
      absurd (false≢true (sym n ∙ sym (same_laws.symm k a) ∙ same_laws.congr k q a h ∙ sym (same_laws.symm a q) ∙ e))
  apart a k q false e n h = e

  new_here : (t : Tuple) (gs : List (List Tuple)) (q : List Datum) → all_some gs ≡ true → place_of key (key t) gs ≡ None → same_data (key t) q ≡ true
      → place_of key q (gs ++ (t ∷ []) ∷ []) ≡ Some (length gs)
  new_here t [] q s h e = ap (λ b. cond b (Some 0) (option_map suc None)) e
  new_here t ([] ∷ gs) q s h e = absurd (false≢true s)
  new_here t ((one ∷ more) ∷ gs) q s h e =
      let by = none_by (same_data (key one) (key t)) (place_of key (key t) gs) h in
      ap (λ b. cond b (Some 0) (option_map suc (place_of key q (gs ++ (t ∷ []) ∷ [])))) (apart (key one) (key t) q (same_data (key one) q) refl by.0 e)
      ∙ ap (option_map suc) (new_here t gs q s by.1 e)

  new_not_here : (t : Tuple) (gs : List (List Tuple)) (q : List Datum) → same_data (key t) q ≡ false → place_of key q (gs ++ (t ∷ []) ∷ []) ≡ place_of key q gs
  new_not_here t [] q e = ap (λ b. cond b (Some 0) (option_map suc None)) e
  new_not_here t (g ∷ gs) q e = ap (λ o. cond (begins_with key q g) (Some 0) (option_map suc o)) (new_not_here t gs q e)

  pub place_new : (t : Tuple) (gs : List (List Tuple)) (q : List Datum) → all_some gs ≡ true → place_of key (key t) gs ≡ None
      → place_of key q (gs ++ (t ∷ []) ∷ []) ≡ cond (same_data (key t) q) (Some (length gs)) (place_of key q gs)
  place_new t gs q s h = by (same_data (key t) q) refl
    where
      by : (b : Bool) → same_data (key t) q ≡ b → place_of key q (gs ++ (t ∷ []) ∷ []) ≡ cond (same_data (key t) q) (Some (length gs)) (place_of key q gs)
      by true e = new_here t gs q s h e ∙ ap (λ b. cond b (Some (length gs)) (place_of key q gs)) (sym e)
      by false e = new_not_here t gs q e ∙ ap (λ b. cond b (Some (length gs)) (place_of key q gs)) (sym e)

  -- ---- no two groups are of one key

  by_key : (b c : Bool) (o p : Option ℕ) → b ≡ c → o ≡ p → cond b (Some 0) (option_map suc o) ≡ cond c (Some 0) (option_map suc p)
  by_key b c o p e f = ap (λ x. cond x (Some 0) (option_map suc o)) e ∙ ap (λ x. cond c (Some 0) (option_map suc x)) f

  same_begin : (k q : List Datum) (g : List Tuple) → same_data k q ≡ true → begins_with key k g ≡ begins_with key q g
  same_begin k q [] e = refl
  same_begin k q (one ∷ more) e = same_laws.symm (key one) k ∙ same_laws.congr k q (key one) e ∙ same_laws.symm q (key one)

  pub same_place : (k q : List Datum) (gs : List (List Tuple)) → same_data k q ≡ true → place_of key k gs ≡ place_of key q gs
  same_place k q [] e = refl
  same_place k q (g ∷ gs) e = by_key _ _ _ _ (same_begin k q g e) (same_place k q gs e)

  -- the place that was found stands under each key that is the same
  pub place_again : (k q : List Datum) (gs : List (List Tuple)) (i : ℕ) → place_of key k gs ≡ Some i → cond (same_data k q) (Some i) (place_of key q gs) ≡ place_of key q gs
  place_again k q gs i p = by (same_data k q) refl
    where
      by : (b : Bool) → same_data k q ≡ b → cond b (Some i) (place_of key q gs) ≡ place_of key q gs
      by true e = sym p ∙ same_place k q gs e
      by false e = refl

  none_begins : (q : List Datum) (g : List Tuple) (gs : List (List Tuple)) (i : ℕ) → AreApart key (g ∷ gs) → place_of key q gs ≡ Some i → (b : Bool) → begins_with key q g ≡ b → b ≡ false
  unfolding is_none_of
  none_begins q g gs i h p false e = refl
  none_begins q [] gs i h p true e = absurd (false≢true e)
  none_begins q (one ∷ more) gs i h p true e = absurd (false≢true (sym (ap is_none_of (sym h.0 ∙ same_place (key one) q gs e ∙ p))))

  tail_apart : (g : List Tuple) (gs : List (List Tuple)) → AreApart key (g ∷ gs) → AreApart key gs
  tail_apart [] gs h = h
  tail_apart (one ∷ more) gs h = h.1

  -- the group that begins so is the one of the key
  pub place_here : (q : List Datum) (gs : List (List Tuple)) (i : ℕ) → AreApart key gs → begins_with key q (slice_index_or gs i []) ≡ true → place_of key q gs ≡ Some i
  place_here q [] i h e = absurd (false≢true e)
  place_here q (g ∷ gs) zero h e = ap (λ b. cond b (Some 0) (option_map suc (place_of key q gs))) e
  place_here q (g ∷ gs) (suc i) h e =
      let p = place_here q gs i (tail_apart g gs h) e in
      ap (λ b. cond b (Some 0) (option_map suc (place_of key q gs))) (none_begins q g gs i h p (begins_with key q g) refl) ∙ ap (option_map suc) p

  pub apart_stay : (gs : List (List Tuple)) (i : ℕ) (t : Tuple) → all_some gs ≡ true → AreApart key gs → AreApart key (add_at gs i t)
  apart_stay [] i t s h = h
  apart_stay ([] ∷ gs) i t s h = absurd (false≢true s)
  apart_stay ((one ∷ more) ∷ gs) zero t s h = h
  apart_stay ((one ∷ more) ∷ gs) (suc i) t s h = (place_stays (key one) gs i t s ∙ h.0, apart_stay gs i t s h.1)

  pub apart_more : (gs : List (List Tuple)) (t : Tuple) → all_some gs ≡ true → place_of key (key t) gs ≡ None → AreApart key gs → AreApart key (gs ++ (t ∷ []) ∷ [])
  apart_more [] t s p h = (refl, tt)
  apart_more ([] ∷ gs) t s p h = absurd (false≢true s)
  apart_more ((one ∷ more) ∷ gs) t s p h =
      let by = none_by (same_data (key one) (key t)) (place_of key (key t) gs) p in
      (new_not_here t gs (key one) (sym (same_laws.symm (key one) (key t)) ∙ by.0) ∙ h.0, apart_more gs t s by.1 h.1)

  -- ---- one more tuple of those that are left

  pub joined_there : (all gs hs : List (List Tuple)) (rest later : List Tuple) (t : Tuple) (i : ℕ) → rest ≡ t ∷ later → all_some gs ≡ true
      → place_of key (key t) gs ≡ Some i → hs ≡ add_at gs i t → all ≡ put_tuples key gs rest → all ≡ put_tuples key hs later
  joined_there all gs hs rest later t i at s p e h =
      h ∙ ap (put_tuples key gs) at ∙ ap (λ groups. put_tuples key groups later) (put_there t gs i s p ∙ sym e)

  pub joined_new : (all gs hs : List (List Tuple)) (rest later : List Tuple) (t : Tuple) → rest ≡ t ∷ later → all_some gs ≡ true
      → place_of key (key t) gs ≡ None → hs ≡ gs ++ (t ∷ []) ∷ [] → all ≡ put_tuples key gs rest → all ≡ put_tuples key hs later
  joined_new all gs hs rest later t at s p e h =
      h ∙ ap (put_tuples key gs) at ∙ ap (λ groups. put_tuples key groups later) (put_new t gs s p ∙ sym e)

-- ---- a place that was found, or a free one

pub was_found : (o : Option ℕ) (free i : ℕ) → i ≡ unwrap_or o free → i < free → o ≡ Some i
was_found None free i e l = absurd (omega (arith, e, l))
was_found (Some n) free i e l = ap Some (sym e)

pub was_free : (o : Option ℕ) (free i : ℕ) → i ≡ unwrap_or o free → free ≤ i → ((n : ℕ) → o ≡ Some n → n < free) → o ≡ None
was_free None free i e l below = refl
was_free (Some n) free i e l below = let under = below n refl in absurd (omega (arith, e, l, under))
