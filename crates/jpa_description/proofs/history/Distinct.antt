-- Numbers that are apart, one by one.
use Rattle.std.proofs.Common.{◌≡◌, ℕ, suc, ◌+◌, ◌<◌, Bool, true, false, cond, List, [], ◌∷◌, ◌++◌, length, get_or, take, drop, refl, sym, ap, ◌∙◌, arith, drop-cons}
use Rattle.std.specs.Prelude.{not, ◌&&◌, ◌||◌, ◌==◌}
use Rattle.std.specs.List.{list_any}
use Rattle.std.specs.Ordering.{nat_cmp}
use Rattle.std.specs.BTreeMap.{is_at}
use Rattle.std.proofs.lemmas.Bool.Decides.{nat_tests}
use Rattle.std.proofs.lemmas.List.{take_more, take-append-drop}
use Rattle.jpa_description.specs.history.Condition.{are_distinct}

abbrev pub is_among : ℕ → List ℕ → Bool
is_among n = list_any (λ k. n == k)

same_turned : (n x : ℕ) → (n == x) ≡ (x == n)
same_turned n x = grind (arith, nat_tests)

at_one : (k q : ℕ) → is_at (nat_cmp k) q ≡ (q == k)
at_one k q = grind (arith, nat_tests)

either : (a b : Bool) → cond a true b ≡ b || a
either true true = refl
either true false = refl
either false true = refl
either false false = refl

or_assoc : (a b c : Bool) → a || (b || c) ≡ (a || b) || c
or_assoc true b c = refl
or_assoc false b c = refl

or_last : (a b : Bool) → b ≡ true → a || b ≡ true
or_last true b h = refl
or_last false b h = h

or_left : (a b : Bool) → a || b ≡ false → a ≡ false
or_left false b h = refl
or_left true b h = h

or_right : (a b : Bool) → a || b ≡ false → b ≡ false
or_right false b h = h
or_right true b h = absurd (cc)

and_left : (a b : Bool) → a && b ≡ true → a ≡ true
and_left true b h = refl
and_left false b h = h

and_right : (a b : Bool) → a && b ≡ true → b ≡ true
and_right true b h = h
and_right false b h = absurd (cc)

and_false : (a b : Bool) → b ≡ false → a && b ≡ false
and_false true b h = h
and_false false b h = refl

or_nothing : (a : Bool) → a || false ≡ a
or_nothing true = refl
or_nothing false = refl

among_more : (q n : ℕ) (xs : List ℕ) → is_among q (xs ++ n ∷ []) ≡ (is_among q xs || (q == n))
among_more q n [] = or_nothing (q == n)
among_more q n (x ∷ xs) = ap (λ b. (q == x) || b) (among_more q n xs) ∙ or_assoc (q == x) (is_among q xs) (q == n)

-- what a set holds after one more number
pub held_more : (q n : ℕ) (xs : List ℕ) (held : Bool) → held ≡ is_among q xs → cond (is_at (nat_cmp n) q) true held ≡ is_among q (xs ++ n ∷ [])
held_more q n xs held h = either (is_at (nat_cmp n) q) held ∙ ap (λ b. held || b) (at_one n q) ∙ ap (λ b. b || (q == n)) h ∙ sym (among_more q n xs)

among_there : (x n : ℕ) (xs ys : List ℕ) → (x == n) ≡ true → is_among x (xs ++ n ∷ ys) ≡ true
among_there x n [] ys h = rw h refl
among_there x n (y ∷ xs) ys h = or_last (x == y) (is_among x (xs ++ n ∷ ys)) (among_there x n xs ys h)

-- one that stands before
first_or_later : (n x : ℕ) (xs ys : List ℕ) (b : Bool) → (n == x) ≡ b → (is_among n xs ≡ true → are_distinct (xs ++ n ∷ ys) ≡ false) → b || is_among n xs ≡ true →
    not (is_among x (xs ++ n ∷ ys)) && are_distinct (xs ++ n ∷ ys) ≡ false
first_or_later n x xs ys true e later h = rw (among_there x n xs ys (sym (same_turned n x) ∙ e)) refl
first_or_later n x xs ys false e later h = and_false _ _ (later h)

repeated : (n : ℕ) (xs ys : List ℕ) → is_among n xs ≡ true → are_distinct (xs ++ n ∷ ys) ≡ false
repeated n [] ys h = absurd (cc)
repeated n (x ∷ xs) ys h = first_or_later n x xs ys (n == x) refl (repeated n xs ys) h

not_among : (x n : ℕ) (xs : List ℕ) → not (is_among x xs) ≡ true → (n == x) ≡ false → not (is_among x (xs ++ n ∷ [])) ≡ true
not_among x n xs h e = rw (among_more x n xs, sym (same_turned n x) ∙ e, or_nothing (is_among x xs)) h

-- one that does not stand before
one_more : (n : ℕ) (xs : List ℕ) → are_distinct xs ≡ true → is_among n xs ≡ false → are_distinct (xs ++ n ∷ []) ≡ true
one_more n [] d h = refl
one_more n (x ∷ xs) d h =
    let first : not (is_among x (xs ++ n ∷ [])) ≡ true = not_among x n xs (and_left _ _ d) (or_left _ _ h) in
    rw first (one_more n xs (and_right _ _ d) (or_right _ _ h))

-- the number at a place stands before it, or does not
pub stands_twice : (xs : List ℕ) (i : ℕ) → i < length xs → is_among (get_or xs i 0) (take i xs) ≡ true → are_distinct xs ≡ false
stands_twice xs i within h =
    let whole : take i xs ++ get_or xs i 0 ∷ drop (suc i) xs ≡ xs = ap (λ ys. take i xs ++ ys) (sym (drop-cons xs i 0 within)) ∙ take-append-drop i xs in
    sym (ap are_distinct whole) ∙ repeated (get_or xs i 0) (take i xs) (drop (suc i) xs) h

pub apart_more : (xs : List ℕ) (i : ℕ) → i < length xs → are_distinct (take i xs) ≡ true → is_among (get_or xs i 0) (take i xs) ≡ false → are_distinct (take (i + 1) xs) ≡ true
apart_more xs i within d h = ap are_distinct (take_more xs i 0 within) ∙ one_more (get_or xs i 0) (take i xs) d h

pub held_of : (held : Bool) (added : Bool) → added ≡ not held → added ≡ false → held ≡ true
held_of true added h e = refl
held_of false added h e = absurd (cc)

pub new_of : (held : Bool) (added : Bool) → added ≡ not held → added ≡ true → held ≡ false
new_of false added h e = refl
new_of true added h e = absurd (cc)
