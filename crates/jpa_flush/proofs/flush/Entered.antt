-- The entry of an object, found by its place.
use Rattle.std.proofs.Common.{◌≡◌, ◌∙◌, ◌≢◌, ℕ, zero, suc, ◌+◌, ◌<◌, Bool, true, false, List, [], ◌∷◌, length, get_or, map, cond, refl, ap, arith, Some}
use Rattle.std.specs.Prelude.{◌==◌, ◌||◌, find, is_some, slice_get}
use Rattle.std.specs.List.{list_any, position_from}
use Rattle.std.proofs.lemmas.Bool.{eq-eqb, eqb-true, ne_eqb}
use Rattle.std.proofs.lemmas.Option.{same_Some}
use Rattle.jpa_work.specs.declared.context.Entry.{Entry}

-- the object stands at its place
named_from : (n j i : ℕ) (es : List Entry) → position_from (λ (e : Entry). e.object == n) j es ≡ Some i → (k : ℕ) × (i ≡ j + k) × (slice_get (map (λ (e : Entry). e.object) es) k ≡ Some n)
named_from n j i [] h = absurd cc
named_from n j i (x ∷ xs) h = by (x.object == n) refl h (named_from n (j + 1) i xs)
  where
    by : (b : Bool) → (x.object == n) ≡ b → cond b (Some j) (position_from (λ (e : Entry). e.object == n) (j + 1) xs) ≡ Some i →
        (position_from (λ (e : Entry). e.object == n) (j + 1) xs ≡ Some i → (k : ℕ) × (i ≡ j + 1 + k) × (slice_get (map (λ (e : Entry). e.object) xs) k ≡ Some n)) →
        (k : ℕ) × (i ≡ j + k) × (slice_get (map (λ (e : Entry). e.object) (x ∷ xs)) k ≡ Some n)
    by true e at' rest = let same = same_Some j i at' in (0, omega (arith, same), ap Some (eqb-true x.object n e))
    by false e at' rest = let r = rest at' in let same = r.1 in (suc r.0, omega (arith, same), r.2)

pub named_there : (n i : ℕ) (es : List Entry) → position_from (λ (e : Entry). e.object == n) 0 es ≡ Some i → slice_get (map (λ (e : Entry). e.object) es) i ≡ Some n
named_there n i es h =
    let r = named_from n 0 i es h in
    let same : i ≡ r.0 = r.1 ∙ omega arith in
    ap (slice_get (map (λ (e : Entry). e.object) es)) same ∙ r.2

-- it has one, where it has an entry
pub is_placed : (n j : ℕ) (es : List Entry) → list_any (λ (e : Entry). e.object == n) es ≡ true → is_some (position_from (λ (e : Entry). e.object == n) j es) ≡ true
is_placed n j [] h = h
is_placed n j (x ∷ xs) h = by (x.object == n) h (is_placed n (j + 1) xs)
  where
    by : (b : Bool) → (b || list_any (λ (e : Entry). e.object == n) xs) ≡ true → (list_any (λ (e : Entry). e.object == n) xs ≡ true → is_some (position_from (λ (e : Entry). e.object == n) (j + 1) xs) ≡ true) →
        is_some (cond b (Some j) (position_from (λ (e : Entry). e.object == n) (j + 1) xs)) ≡ true
    by true h rest = refl
    by false h rest = rest h

-- the first entry of an object is found
pub find_at : (n : ℕ) (xs : List Entry) (k : ℕ) (d : Entry) → k < length xs → (get_or xs k d).object ≡ n → ((i : ℕ) → i < k → (get_or xs i d).object ≢ n) → find (λ (e : Entry). e.object == n) xs ≡ Some (get_or xs k d)
find_at n [] k d l own others = absurd (omega (arith, l))
find_at n (x ∷ xs) zero d l own others = ap (λ b. cond b (Some x) (find (λ (e : Entry). e.object == n) xs)) (eq-eqb x.object n own)
find_at n (x ∷ xs) (suc k) d l own others =
    ap (λ b. cond b (Some x) (find (λ (e : Entry). e.object == n) xs)) (ne_eqb x.object n (others 0 (omega arith)))
    ∙ find_at n xs k d (omega (arith, l)) own (λ i h. others (suc i) (omega (arith, h)))
