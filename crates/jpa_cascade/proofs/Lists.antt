-- Members of lists of nodes.
use Rattle.std.proofs.Common.{◌≡◌, ◌∙◌, ℕ, zero, ◌+◌, ◌<◌, List, [], ◌∷◌, map, length, get_or, refl, ap, sym, subst, ◌⊎◌, inl, inr, ⊎_elim, arith}
use Rattle.std.specs.Prelude.{Contains, slice_get, Some}
use Rattle.std.specs.List.{enumerate_from, flat_map, range_with_len}
use Rattle.std.proofs.lemmas.List.Elements.{Contains-append_left, Contains-append_right, Contains-append_cases, Contains-push_cases}
use Rattle.std.proofs.lemmas.Option.{slice_get-get_or, slice_get_within, get_or_from_slice_get}
use Rattle.std.proofs.lemmas.List.FromFn.{length-enumerate_from, get_or-enumerate_from, length-range_with_len, get_or-range_with_len}

pub none_in : {X : Type 0} (x : X) → Contains [] x → ⊥
none_in x h = absurd (omega (arith, h.1))

pub first_in : {X : Type 0} (x : X) (xs : List X) → Contains (x ∷ xs) x
first_in x xs = Contains-append_left (x ∷ []) xs x (zero, omega arith, refl)

pub later_in : {X : Type 0} (x : X) (xs : List X) (y : X) → Contains xs y → Contains (x ∷ xs) y
later_in x xs y h = Contains-append_right (x ∷ []) xs y h

pub in_one : {X : Type 0} (x y : X) → Contains (x ∷ []) y → y ≡ x
in_one x y h = ⊎_elim (λ (k : Contains [] y). absurd (none_in y k)) (λ (e : x ≡ y). sym e) (Contains-push_cases [] x y h)

pub in_cases : {X : Type 0} (x : X) (xs : List X) (y : X) → Contains (x ∷ xs) y → (y ≡ x) ⊎ Contains xs y
in_cases x xs y h = ⊎_elim (λ (k : Contains (x ∷ []) y). inl (in_one x y k)) (λ (k : Contains xs y). inr k) (Contains-append_cases (x ∷ []) xs y h)

-- ---- of a map and of what is flattened

pub in_map : {X Y : Type 0} (f : X → Y) (xs : List X) (x : X) → Contains xs x → Contains (map f xs) (f x)
in_map f [] x h = absurd (none_in x h)
in_map f (z ∷ zs) x h =
    ⊎_elim (λ (e : x ≡ z). subst (λ u. Contains (map f (z ∷ zs)) (f u)) (sym e) (first_in (f z) (map f zs)))
    (λ (k : Contains zs x). later_in (f z) (map f zs) (f x) (in_map f zs x k)) (in_cases z zs x h)

pub from_map : {X Y : Type 0} (f : X → Y) (xs : List X) (y : Y) → Contains (map f xs) y → (x : X) × Contains xs x × (y ≡ f x)
from_map f [] y h = absurd (none_in y h)
from_map f (z ∷ zs) y h =
    ⊎_elim (λ (e : y ≡ f z). (z, first_in z zs, e))
    (λ (k : Contains (map f zs) y). let r = from_map f zs y k in (r.0, later_in z zs r.0 r.1, r.2)) (in_cases (f z) (map f zs) y h)

pub in_flat : {X Y : Type 0} (f : X → List Y) (xs : List X) (x : X) (y : Y) → Contains xs x → Contains (f x) y → Contains (flat_map f xs) y
in_flat f [] x y h k = absurd (none_in x h)
in_flat f (z ∷ zs) x y h k =
    ⊎_elim (λ (e : x ≡ z). Contains-append_left (f z) (flat_map f zs) y (subst (λ u. Contains (f u) y) e k))
    (λ (l : Contains zs x). Contains-append_right (f z) (flat_map f zs) y (in_flat f zs x y l k)) (in_cases z zs x h)

pub from_flat : {X Y : Type 0} (f : X → List Y) (xs : List X) (y : Y) → Contains (flat_map f xs) y → (x : X) × Contains xs x × Contains (f x) y
from_flat f [] y h = absurd (none_in y h)
from_flat f (z ∷ zs) y h =
    ⊎_elim (λ (k : Contains (f z) y). (z, first_in z zs, k))
    (λ (k : Contains (flat_map f zs) y). let r = from_flat f zs y k in (r.0, later_in z zs r.0 r.1, r.2)) (Contains-append_cases (f z) (flat_map f zs) y h)

-- ---- the numbers below one

pub in_range : (n k : ℕ) → k < n → Contains (range_with_len 0 n) k
in_range n k h =
    let within : k < length (range_with_len 0 n) = subst (λ c. k < c) (sym (length-range_with_len 0 n)) h in
    let it : get_or (range_with_len 0 n) k k ≡ k = get_or-range_with_len 0 n k k h ∙ omega arith in
    (k, within, it)

-- ---- elements with their places

pub from_enumerated : {X : Type 0} (xs : List X) (p : ℕ × X) → Contains (enumerate_from 0 xs) p → slice_get xs p.0 ≡ Some p.1
from_enumerated xs p h =
    let within : h.0 < length xs = subst (λ c. h.0 < c) (length-enumerate_from 0 xs) h.1 in
    let it = sym h.2 ∙ get_or-enumerate_from 0 xs h.0 p within in
    let place : p.0 ≡ h.0 = ap (λ q. q.0) it ∙ omega arith in
    ap (slice_get xs) place ∙ slice_get-get_or xs h.0 p.1 within ∙ ap Some (sym (ap (λ q. q.1) it))

pub to_enumerated : {X : Type 0} (xs : List X) (i : ℕ) (x : X) → slice_get xs i ≡ Some x → Contains (enumerate_from 0 xs) (i, x)
to_enumerated xs i x h =
    let within : i < length xs = slice_get_within xs i x h in
    let longer : i < length (enumerate_from 0 xs) = subst (λ c. i < c) (sym (length-enumerate_from 0 xs)) within in
    let place : 0 + i ≡ i = omega arith in
    let it : get_or xs i x ≡ x = get_or_from_slice_get xs i x x h in
    (i, longer, get_or-enumerate_from 0 xs i (i, x) within ∙ (λ k. (place k, it k)))
