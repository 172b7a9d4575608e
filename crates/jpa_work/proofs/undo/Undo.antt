-- What undoing gives: of one more change, of one more item, and of the kept front alone.
use Rattle.std.proofs.Common.{◌≡◌, ◌∙◌, refl, sym, ap, ℕ, zero, suc, ◌≤◌, List, [], ◌∷◌, ◌++◌, length, take, slice_set, arith, get_or, subst, ◌<◌, ◌≢◌, ◌⊎◌, inl, inr}
use Rattle.std.proofs.lemmas.List.{length-set, length-take-le, get_or-set_same, get_or-set_other, get_or-take, set_past}
use Rattle.std.specs.List.{AllByRecursion}
use Rattle.std.proofs.lemmas.Bool.{cases_eq, cases_lt}
use Rattle.jpa_work.specs.undo.Undo.{put_back}

-- the last change is undone first
pub put_back-snoc : {T : Type 0} (items : List T) (os : List (ℕ × T)) (o : ℕ × T) → put_back items (os ++ o ∷ []) ≡ put_back (slice_set items o.0 o.1) os
put_back-snoc items [] o = refl
put_back-snoc items (p ∷ os) o = ap (λ xs. slice_set xs p.0 p.1) (put_back-snoc items os o)

take-slice_set : {T : Type 0} (k : ℕ) (xs : List T) (i : ℕ) (y : T) → take k (slice_set xs i y) ≡ slice_set (take k xs) i y
take-slice_set zero [] i y = refl
take-slice_set zero (x ∷ xs) zero y = refl
take-slice_set zero (x ∷ xs) (suc i) y = refl
take-slice_set (suc k) [] i y = refl
take-slice_set (suc k) (x ∷ xs) zero y = refl
take-slice_set (suc k) (x ∷ xs) (suc i) y = ap (λ r. x ∷ r) (take-slice_set k xs i y)

-- the kept front is undone by itself
pub take-put_back : {T : Type 0} (k : ℕ) (items : List T) (os : List (ℕ × T)) → take k (put_back items os) ≡ put_back (take k items) os
take-put_back k items [] = refl
take-put_back k items (o ∷ os) = take-slice_set k (put_back items os) o.0 o.1 ∙ ap (λ xs. slice_set xs o.0 o.1) (take-put_back k items os)

take_front : {T : Type 0} (k : ℕ) (xs ys : List T) → k ≤ length xs → take k (xs ++ ys) ≡ take k xs
take_front zero xs ys h = refl
take_front (suc k) [] ys h = absurd (omega arith)
take_front (suc k) (x ∷ xs) ys h = ap (λ r. x ∷ r) (take_front k xs ys (omega arith))

-- one more item behind the kept ones changes nothing of what undoing gives
pub pushed : {T : Type 0} (k : ℕ) (items : List T) (x : T) (os : List (ℕ × T)) → k ≤ length items → take k (put_back (items ++ x ∷ []) os) ≡ take k (put_back items os)
pushed k items x os h = take-put_back k (items ++ x ∷ []) os ∙ ap (λ xs. put_back xs os) (take_front k items (x ∷ []) h) ∙ sym (take-put_back k items os)

slice_set_back : {T : Type 0} (xs : List T) (i : ℕ) (y : T) (old : T) → slice_set (slice_set xs i y) i old ≡ slice_set xs i old
slice_set_back [] i y old = refl
slice_set_back (x ∷ xs) zero y old = refl
slice_set_back (x ∷ xs) (suc i) y old = ap (λ r. x ∷ r) (slice_set_back xs i y old)

-- an item overwritten and put back stands as before
pub overwritten : {T : Type 0} (items : List T) (i : ℕ) (y old : T) (os : List (ℕ × T)) → slice_set items i old ≡ items → put_back (slice_set items i y) (os ++ (i, old) ∷ []) ≡ put_back items os
overwritten items i y old os same = put_back-snoc (slice_set items i y) os (i, old) ∙ ap (λ xs. put_back xs os) (slice_set_back items i y old ∙ same)

take_again : {T : Type 0} (k : ℕ) (xs : List T) → take k (take k xs) ≡ take k xs
take_again zero xs = refl
take_again (suc k) [] = refl
take_again (suc k) (x ∷ xs) = ap (λ r. x ∷ r) (take_again k xs)

-- one step of undoing
pub undone : {T : Type 0} (k : ℕ) (items : List T) (before rest : List (ℕ × T)) (at' : ℕ) (old : T)
    → before ≡ rest ++ (at', old) ∷ [] → take k (put_back (slice_set items at' old) rest) ≡ take k (put_back items before)
undone k items before rest at' old h = ap (take k) (sym (put_back-snoc items rest (at', old)) ∙ ap (put_back items) (sym h))

pub slice_set_past : {T : Type 0} (xs : List T) (i : ℕ) (y : T) → length xs ≤ i → slice_set xs i y ≡ xs
slice_set_past [] i y h = refl
slice_set_past (x ∷ xs) zero y h = absurd (omega arith)
slice_set_past (x ∷ xs) (suc i) y h = ap (λ r. x ∷ r) (slice_set_past xs i y (omega arith))

-- ---- what was noted, and what was not

pub length_back : {T : Type 0} (items : List T) (os : List (ℕ × T)) → length (put_back items os) ≡ length items
length_back items [] = refl
length_back items (o ∷ os) = length-set (put_back items os) o.0 o.1 ∙ length_back items os

-- as many as were kept
pub length_kept : {T : Type 0} (k : ℕ) (items : List T) (os : List (ℕ × T)) → k ≤ length items → length (take k (put_back items os)) ≡ k
length_kept k items os h = let same = length_back items os in length-take-le k (put_back items os) (omega (arith, h, same))

-- what holds of an item and of each that was noted at its place holds of what is put back there
pub back_by : {T : Type 0} (P : T → Type 0) (items : List T) (os : List (ℕ × T)) (i : ℕ) (d : T) → AllByRecursion (λ o. o.0 ≡ i → P o.1) os → P (get_or items i d) → P (get_or (put_back items os) i d)
back_by P items [] i d h p = p
back_by {T} P items (o ∷ os) i d h p = by (put_back items os) (back_by P items os i d h.1 p) (cases_eq i o.0) (cases_lt o.0 (length (put_back items os)))
  where
    by : (rest : List T) → P (get_or rest i d) → (i ≡ o.0) ⊎ (i ≢ o.0) → (o.0 < length rest) ⊎ (length rest ≤ o.0) → P (get_or (slice_set rest o.0 o.1) i d)
    by rest old (inr apart) l = subst P (sym (get_or-set_other rest o.0 i o.1 d apart)) old
    by rest old (inl e) (inl l) = subst P (sym (ap (λ j. get_or (slice_set rest o.0 o.1) j d) e ∙ get_or-set_same rest o.0 o.1 d l)) (h.0 (sym e))
    by rest old (inl e) (inr l) = subst (λ xs. P (get_or xs i d)) (sym (set_past rest o.0 o.1 l)) old

-- so of the items to which undoing leads back
pub since_by : {T : Type 0} (P : T → Type 0) (now since : List T) (os : List (ℕ × T)) (i : ℕ) (d : T) → since ≡ take (length since) (put_back now os) → i < length since →
    AllByRecursion (λ o. o.0 ≡ i → P o.1) os → P (get_or now i d) → P (get_or since i d)
since_by P now since os i d back l h p =
    subst P (sym (ap (λ xs. get_or xs i d) back ∙ get_or-take (length since) (put_back now os) i d l)) (back_by P now os i d h p)
