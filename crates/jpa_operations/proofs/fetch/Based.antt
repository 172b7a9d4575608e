-- An entry that changes alone, in a context whose entries are of different objects.
use Rattle.std.proofs.Common.{◌≡◌, ◌∙◌, ℕ, zero, suc, ◌+◌, ◌<◌, ◌≤◌, Bool, true, false, List, [], ◌∷◌, map, length, get_or, cond, refl, ap, sym, subst, arith, Some, None}
use Rattle.std.specs.Prelude.{if◌then◌else◌, ◌==◌, ◌||◌, not, slice_set}
use Rattle.std.specs.List.{list_any, position_from}
use Rattle.std.proofs.lemmas.Bool.{both_ways, and_parts, or_from, or_parts, not-true, cond-true, cond-false, eq-eqb, eqb-true, ne_eqb, eqb-false}
use Rattle.std.proofs.lemmas.List.Folds.{list_any_at}
use Rattle.jpa_stored.specs.objects.Sets.{all_distinct}
use Rattle.jpa_work.specs.declared.context.Entry.{Entry}
use Rattle.jpa_work.specs.context.Places.{entry_place}
use Rattle.jpa_operations.specs.fetch.Grown.{AreDistinct}

-- the entries of an object change
abbrev pub changed_if : ℕ → (Entry → Entry) → Entry → Entry
changed_if n f e = if e.object == n then f e else e

others : (n : ℕ) (f : Entry → Entry) (es : List Entry) → list_any (λ (e : Entry). e.object == n) es ≡ false → map (changed_if n f) es ≡ es
others n f [] h = refl
others n f (e ∷ es) h =
    let apart = or_parts (e.object == n) (list_any (λ (x : Entry). x.object == n) es) h in
    λ j. cond-false (e.object == n) (f e) e apart.0 j ∷ others n f es apart.1 j

turned : (n : ℕ) (es : List Entry) → list_any (λ (b : Entry). n == b.object) es ≡ false → list_any (λ (b : Entry). b.object == n) es ≡ false
turned n [] h = refl
turned n (e ∷ es) h =
    let apart = or_parts (n == e.object) (list_any (λ (b : Entry). n == b.object) es) h in
    or_from (e.object == n) (list_any (λ (b : Entry). b.object == n) es) (ne_eqb e.object n (λ q. eqb-false n e.object apart.0 (sym q))) (turned n es apart.1)

pub one_changed : (f : Entry → Entry) (es : List Entry) (i : ℕ) (e : Entry) → AreDistinct es → i < length es → e ≡ get_or es i e → slice_set es i (f e) ≡ map (changed_if e.object f) es
one_changed f [] i e h l read = absurd (omega arith)
one_changed f (y ∷ ys) zero e h l read =
    let apart = not-true (list_any (λ b. y.object == b.object) ys) ((and_parts (not (list_any (λ b. y.object == b.object) ys)) (all_distinct (λ a b. a.object == b.object) ys) h).0) in
    let hit : changed_if y.object f y ≡ f y = cond-true (y.object == y.object) (f y) y (eq-eqb y.object y.object refl) in
    subst (λ (v : Entry). f v ∷ ys ≡ map (changed_if v.object f) (y ∷ ys)) (sym read) (λ j. sym hit j ∷ sym (others y.object f ys (turned y.object ys apart)) j)
one_changed f (y ∷ ys) (suc i) e h l read =
    let parts = and_parts (not (list_any (λ b. y.object == b.object) ys)) (all_distinct (λ a b. a.object == b.object) ys) h in
    let apart = not-true (list_any (λ b. y.object == b.object) ys) (parts.0) in
    let within : i < length ys = omega (arith, l) in
    let other : (y.object ≡ e.object → ⊥) =
    λ q. both_ways (list_any (λ b. y.object == b.object) ys) apart
    (list_any_at (λ (b : Entry). y.object == b.object) ys i e within (eq-eqb y.object (get_or ys i e).object (q ∙ ap (λ (v : Entry). v.object) read))) in
    let same : changed_if e.object f y ≡ y = cond-false (y.object == e.object) (f y) y (ne_eqb y.object e.object other) in
    λ j. sym same j ∷ one_changed f ys i e (parts.1) within read j

-- ---- an object's place

at_least : (t : Entry → Bool) (i k : ℕ) (es : List Entry) → position_from t i es ≡ Some k → i ≤ k
at_least t i k [] h = cc
at_least t i k (x ∷ xs) h = by_test (t x) h (at_least t (i + 1) k xs)
  where
    by_test : (b : Bool) → cond b (Some i) (position_from t (i + 1) xs) ≡ Some k → (position_from t (i + 1) xs ≡ Some k → i + 1 ≤ k) → i ≤ k
    by_test true h later = let same : i ≡ k = cc in omega (arith, same)
    by_test false h later = let l = later h in omega (arith, l)

none_pass : (t : Entry → Bool) (i : ℕ) (es : List Entry) → position_from t i es ≡ None → list_any t es ≡ false
none_pass t i [] h = refl
none_pass t i (x ∷ xs) h = by_test (t x) h (none_pass t (i + 1) xs)
  where
    by_test : (b : Bool) → cond b (Some i) (position_from t (i + 1) xs) ≡ None → (position_from t (i + 1) xs ≡ None → list_any t xs ≡ false) → b || list_any t xs ≡ false
    by_test true h later = cc
    by_test false h later = later h

first_there : (n i k : ℕ) (es : List Entry) (e d : Entry) → position_from (λ (x : Entry). x.object == n) i es ≡ Some (i + k) → e ≡ get_or es k d → (k < length es) × (e.object ≡ n)
first_there n i k [] e d h read = cc
first_there n i zero (x ∷ xs) e d h read = by_test (x.object == n) refl h (at_least (λ (y : Entry). y.object == n) (i + 1) (i + 0) xs)
  where
    by_test : (b : Bool) → (x.object == n) ≡ b → cond b (Some i) (position_from (λ (y : Entry). y.object == n) (i + 1) xs) ≡ Some (i + 0) →
        (position_from (λ (y : Entry). y.object == n) (i + 1) xs ≡ Some (i + 0) → i + 1 ≤ i + 0) → (0 < suc (length xs)) × (e.object ≡ n)
    by_test true t h later = (omega arith, ap (λ (y : Entry). y.object) read ∙ eqb-true x.object n t)
    by_test false t h later = absurd (let l = later h in omega (arith, l))
first_there n i (suc j) (x ∷ xs) e d h read = by_test (x.object == n) h (λ q. first_there n (i + 1) j xs e d (q ∙ ap Some (omega arith)) read)
  where
    by_test : (b : Bool) → cond b (Some i) (position_from (λ (y : Entry). y.object == n) (i + 1) xs) ≡ Some (i + suc j) →
        (position_from (λ (y : Entry). y.object == n) (i + 1) xs ≡ Some (i + suc j) → (j < length xs) × (e.object ≡ n)) → (suc j < suc (length xs)) × (e.object ≡ n)
    by_test true h later = absurd (let same : i ≡ i + suc j = cc in omega (arith, same))
    by_test false h later = let k = later h in (let l = k.0 in omega (arith, l), k.1)

-- an object without a place has no entry, and the entry at its place is its own
pub none_changed : (n : ℕ) (f : Entry → Entry) (es : List Entry) → entry_place n es ≡ None → map (changed_if n f) es ≡ es
none_changed n f es h = others n f es (none_pass (λ (x : Entry). x.object == n) 0 es h)

pub place_within : (n k : ℕ) (es : List Entry) → entry_place n es ≡ Some k → k < length es
place_within n k [] h = cc
place_within n k (x ∷ xs) h = (first_there n 0 k (x ∷ xs) (get_or (x ∷ xs) k x) x (h ∙ ap Some (omega arith)) refl).0

pub entry_there : (n k : ℕ) (es : List Entry) (e : Entry) → entry_place n es ≡ Some k → e ≡ get_or es k e → e.object ≡ n
entry_there n k es e h read = (first_there n 0 k es e e (h ∙ ap Some (omega arith)) read).1
