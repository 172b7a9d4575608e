-- Putting one after the other into a sorted list, each behind those that it ties with, keeps the order of what ties.
use Rattle.std.proofs.Common.{◌≡◌, ◌∙◌, ap, sym, refl, Bool, true, false, not, ◌&&◌, cond, List, [], ◌∷◌, ◌++◌, true≢false, if◌then◌else◌, subst, arith, length, get_or, ◌<◌, ◌+◌, zero, suc}
use Rattle.std.specs.List.{filter}
use Rattle.std.specs.List.Sorted.{ties, IsSortedBy}
use Rattle.std.specs.Cmp.{IsStrictWeakOrder}
use Rattle.std.proofs.lemmas.List.{append-nil, append_assoc}

module _ {X : Type 0} (lt : X → X → Bool) where
  abbrev pub put : X → List X → List X
  put r [] = r ∷ []
  put r (x ∷ xs) = if lt r x then r ∷ x ∷ xs else (x ∷ put r xs)

  abbrev pub put_all : List X → List X → List X
  put_all sorted [] = sorted
  put_all sorted (r ∷ rs) = put_all (put r sorted) rs

  abbrev pub none_below : X → List X → Bool
  none_below x [] = true
  none_below x (w ∷ ws) = not (lt w x) && none_below x ws

  abbrev pub is_sorted : List X → Bool
  is_sorted [] = true
  is_sorted (x ∷ xs) = none_below x xs && is_sorted xs

  abbrev one_if : Bool → X → List X
  one_if true r = r ∷ []
  one_if false r = []

  both_true : (a b : Bool) → (a && b) ≡ true → (a ≡ true) × (b ≡ true)
  both_true true b e = (refl, e)
  both_true false b e = absurd (true≢false (sym e))

  not_true : (a : Bool) → not a ≡ true → a ≡ false
  not_true true e = absurd (true≢false (sym e))
  not_true false e = refl

  module _ (o : IsStrictWeakOrder lt) where
    -- what ties with x doesn't stand behind r, which ties with x, and w
    apart : (x r w y : X) → lt r w ≡ true → lt y w ≡ false → lt r x ≡ false → ties lt x y ≡ false
    apart x r w y rw_ yw rx = by (lt x y) refl
      where
        by : (b : Bool) → lt x y ≡ b → ties lt x y ≡ false
        by true e = ap (λ b. not b && not (lt y x)) e
        by false e = absurd (true≢false (sym rw_ ∙ o.chain r y w (o.chain r x y rx e) yw))

    none_tie : (x r w : X) (ws : List X) → lt r w ≡ true → lt r x ≡ false → none_below w ws ≡ true → filter (ties lt x) ws ≡ []
    none_tie x r w [] rw_ rx h = refl
    none_tie x r w (y ∷ ys) rw_ rx h =
        let parts = both_true (not (lt y w)) (none_below w ys) h in
        ap (λ b. cond b (y ∷ filter (ties lt x) ys) (filter (ties lt x) ys)) (apart x r w y rw_ (not_true (lt y w) parts.0) rx) ∙ none_tie x r w ys rw_ rx parts.1

    irreflexive : (w : X) → lt w w ≡ false
    irreflexive w = by (lt w w) refl
      where
        by : (b : Bool) → lt w w ≡ b → lt w w ≡ false
        by true e = o.one_way w w e
        by false e = e

    first_of_ties : (x r : X) (b : Bool) → ties lt x r ≡ b → b ≡ true → lt r x ≡ false
    first_of_ties x r b e t = not_true (lt r x) (both_true (not (lt x r)) (not (lt r x)) (e ∙ t)).1

    put_before : (x r w : X) (ws : List X) (b : Bool) → ties lt x r ≡ b → lt r w ≡ true → none_below w ws ≡ true
        → filter (ties lt x) (r ∷ w ∷ ws) ≡ filter (ties lt x) (w ∷ ws) ++ one_if b r
    put_before x r w ws true e rw_ h =
        let none = none_tie x r w (w ∷ ws) rw_ (first_of_ties x r true e refl) (ap (λ c. not c && none_below w ws) (irreflexive w) ∙ h) in
        ap (λ c. cond c (r ∷ filter (ties lt x) (w ∷ ws)) (filter (ties lt x) (w ∷ ws))) e ∙ ap (λ ys. r ∷ ys) none ∙ sym (ap (λ ys. ys ++ r ∷ []) none)
    put_before x r w ws false e rw_ h =
        ap (λ c. cond c (r ∷ filter (ties lt x) (w ∷ ws)) (filter (ties lt x) (w ∷ ws))) e ∙ sym (append-nil (filter (ties lt x) (w ∷ ws)))

    take_on : (p b : Bool) (w r : X) (xs ys : List X) → xs ≡ ys ++ one_if b r → cond p (w ∷ xs) xs ≡ cond p (w ∷ ys) ys ++ one_if b r
    take_on true b w r xs ys e = ap (λ l. w ∷ l) e
    take_on false b w r xs ys e = e

    put_next : (x r w : X) (ws : List X) (b : Bool) → lt r w ≡ b → none_below w ws ≡ true
        → filter (ties lt x) (put r ws) ≡ filter (ties lt x) ws ++ one_if (ties lt x r) r
        → filter (ties lt x) (put r (w ∷ ws)) ≡ filter (ties lt x) (w ∷ ws) ++ one_if (ties lt x r) r
    put_next x r w ws true e h behind = ap (λ c. filter (ties lt x) (cond c (r ∷ w ∷ ws) (w ∷ put r ws))) e ∙ put_before x r w ws (ties lt x r) refl e h
    put_next x r w ws false e h behind =
        ap (λ c. filter (ties lt x) (cond c (r ∷ w ∷ ws) (w ∷ put r ws))) e
        ∙ take_on (ties lt x w) (ties lt x r) w r (filter (ties lt x) (put r ws)) (filter (ties lt x) ws) behind

    alone : (b : Bool) (r : X) → cond b (r ∷ []) [] ≡ one_if b r
    alone true r = refl
    alone false r = refl

    -- among what ties with x, the new one is the last
    pub put_stable : (x r : X) (ws : List X) → is_sorted ws ≡ true → filter (ties lt x) (put r ws) ≡ filter (ties lt x) ws ++ one_if (ties lt x r) r
    put_stable x r [] h = alone (ties lt x r) r
    put_stable x r (w ∷ ws) h =
        let parts = both_true (none_below w ws) (is_sorted ws) h in
        put_next x r w ws (lt r w) refl parts.0 (put_stable x r ws parts.1)

    -- ---- and the list stays sorted

    below_all : (r w : X) (ws : List X) → lt r w ≡ true → none_below w ws ≡ true → none_below r ws ≡ true
    below_all r w [] e h = refl
    below_all r w (y ∷ ys) e h =
        let parts = both_true (not (lt y w)) (none_below w ys) h in
        let less : lt y r ≡ false = o.chain y w r (not_true (lt y w) parts.0) (o.one_way r w e) in
        ap (λ c. not c && none_below r ys) less ∙ below_all r w ys e parts.1

    put_there : (w r y : X) (ys : List X) (b : Bool) → lt r y ≡ b → lt r w ≡ false → none_below w (y ∷ ys) ≡ true → none_below w (put r ys) ≡ true
        → none_below w (put r (y ∷ ys)) ≡ true
    put_there w r y ys true d e h behind =
        ap (λ c. none_below w (cond c (r ∷ y ∷ ys) (y ∷ put r ys))) d ∙ ap (λ c. not c && none_below w (y ∷ ys)) e ∙ h
    put_there w r y ys false d e h behind =
        ap (λ c. none_below w (cond c (r ∷ y ∷ ys) (y ∷ put r ys))) d
        ∙ ap (λ c. c && none_below w (put r ys)) (both_true (not (lt y w)) (none_below w ys) h).0 ∙ behind

    below_put : (w r : X) (ws : List X) → lt r w ≡ false → none_below w ws ≡ true → none_below w (put r ws) ≡ true
    below_put w r [] e h = ap (λ c. not c && true) e
    below_put w r (y ∷ ys) e h =
        put_there w r y ys (lt r y) refl e h (below_put w r ys e (both_true (not (lt y w)) (none_below w ys) h).1)

    sorted_next : (r w : X) (ws : List X) (b : Bool) → lt r w ≡ b → none_below w ws ≡ true → is_sorted ws ≡ true → is_sorted (put r ws) ≡ true
        → is_sorted (put r (w ∷ ws)) ≡ true
    sorted_next r w ws true e h hs behind =
        ap (λ c. is_sorted (cond c (r ∷ w ∷ ws) (w ∷ put r ws))) e
        ∙ ap (λ c. (not c && none_below r ws) && (none_below w ws && is_sorted ws)) (o.one_way r w e)
        ∙ ap (λ c. c && (none_below w ws && is_sorted ws)) (below_all r w ws e h)
        ∙ ap (λ c. c && is_sorted ws) h ∙ hs
    sorted_next r w ws false e h hs behind =
        ap (λ c. is_sorted (cond c (r ∷ w ∷ ws) (w ∷ put r ws))) e
        ∙ ap (λ c. c && is_sorted (put r ws)) (below_put w r ws e h) ∙ behind

    pub put_sorted : (r : X) (ws : List X) → is_sorted ws ≡ true → is_sorted (put r ws) ≡ true
    put_sorted r [] h = refl
    put_sorted r (w ∷ ws) h =
        let parts = both_true (none_below w ws) (is_sorted ws) h in
        sorted_next r w ws (lt r w) refl parts.0 parts.1 (put_sorted r ws parts.1)

    -- ---- all of them

    filtered_next : (b : Bool) (r : X) (xs ys : List X) → (xs ++ one_if b r) ++ ys ≡ xs ++ cond b (r ∷ ys) ys
    filtered_next true r xs ys = append_assoc xs (r ∷ []) ys
    filtered_next false r xs ys = ap (λ l. l ++ ys) (append-nil xs)

    pub all_sorted : (ws rs : List X) → is_sorted ws ≡ true → is_sorted (put_all ws rs) ≡ true
    all_sorted ws [] h = h
    all_sorted ws (r ∷ rs) h = all_sorted (put r ws) rs (put_sorted r ws h)

    pub all_stable : (x : X) (ws rs : List X) → is_sorted ws ≡ true → filter (ties lt x) (put_all ws rs) ≡ filter (ties lt x) ws ++ filter (ties lt x) rs
    all_stable x ws [] h = sym (append-nil (filter (ties lt x) ws))
    all_stable x ws (r ∷ rs) h =
        all_stable x (put r ws) rs (put_sorted r ws h)
        ∙ ap (λ l. l ++ filter (ties lt x) rs) (put_stable x r ws h)
        ∙ filtered_next (ties lt x r) r (filter (ties lt x) ws) (filter (ties lt x) rs)

    -- ---- a stable sort is one

    some : List X → Bool
    some [] = false
    some (x ∷ xs) = true

    first_or : X → List X → X
    first_or d [] = d
    first_or d (x ∷ xs) = x

    rest_of : List X → List X
    rest_of [] = []
    rest_of (x ∷ xs) = xs

    ties_itself : (y : X) → ties lt y y ≡ true
    ties_itself y = ap (λ c. not c && not c) (irreflexive y)

    filtered_itself : (y : X) (ys : List X) → filter (ties lt y) (y ∷ ys) ≡ y ∷ filter (ties lt y) ys
    filtered_itself y ys = ap (λ c. cond c (y ∷ filter (ties lt y) ys) (filter (ties lt y) ys)) (ties_itself y)

    -- what a test takes out of a list isn't below what none of the list is below
    taken_next : (test : X → Bool) (z y w : X) (ws rest : List X) (b : Bool) → test w ≡ b → none_below z (w ∷ ws) ≡ true → filter test (w ∷ ws) ≡ y ∷ rest
        → (filter test ws ≡ y ∷ rest → lt y z ≡ false) → lt y z ≡ false
    unfolding first_or
    taken_next test z y w ws rest true d h e behind =
        let same : w ≡ y = ap (λ l. first_or y l) (sym (ap (λ c. cond c (w ∷ filter test ws) (filter test ws)) d) ∙ e) in
        ap (λ v. lt v z) (sym same) ∙ not_true (lt w z) (both_true (not (lt w z)) (none_below z ws) h).0
    taken_next test z y w ws rest false d h e behind = behind (sym (ap (λ c. cond c (w ∷ filter test ws) (filter test ws)) d) ∙ e)

    taken_not_below : (test : X → Bool) (z y : X) (ws rest : List X) → none_below z ws ≡ true → filter test ws ≡ y ∷ rest → lt y z ≡ false
    unfolding some
    taken_not_below test z y [] rest h e = absurd (true≢false (ap some (sym e)))
    taken_not_below test z y (w ∷ ws) rest h e =
        taken_next test z y w ws rest (test w) refl h e (taken_not_below test z y ws rest (both_true (not (lt w z)) (none_below z ws) h).1)

    not_before : (y z : X) (ys zs : List X) → none_below z zs ≡ true → filter (ties lt y) (y ∷ ys) ≡ filter (ties lt y) (z ∷ zs) → lt y z ≡ false
    not_before y z ys zs h e =
        taken_not_below (ties lt y) z y (z ∷ zs) (filter (ties lt y) ys) (ap (λ c. not c && none_below z zs) (irreflexive z) ∙ h) (sym e ∙ filtered_itself y ys)

    same_first : (y z : X) (ys zs : List X) → lt y z ≡ false → lt z y ≡ false → filter (ties lt y) (y ∷ ys) ≡ filter (ties lt y) (z ∷ zs) → y ≡ z
    unfolding first_or
    same_first y z ys zs a b e =
        let tied : ties lt y z ≡ true = ap (λ c. not c && not (lt z y)) a ∙ ap not b in
        ap (λ l. first_or y l) (sym (filtered_itself y ys) ∙ e ∙ ap (λ c. cond c (z ∷ filter (ties lt y) zs) (filter (ties lt y) zs)) tied)

    same_rest : (b : Bool) (y : X) (xs ys : List X) → cond b (y ∷ xs) xs ≡ cond b (y ∷ ys) ys → xs ≡ ys
    unfolding rest_of
    same_rest true y xs ys e = ap rest_of e
    same_rest false y xs ys e = e

    pub stable_is_one : (ys zs : List X) → is_sorted ys ≡ true → is_sorted zs ≡ true → ((x : X) → filter (ties lt x) ys ≡ filter (ties lt x) zs) → ys ≡ zs
    unfolding some
    stable_is_one [] [] hy hz e = refl
    stable_is_one [] (z ∷ zs) hy hz e = absurd (true≢false (ap some (sym (filtered_itself z zs) ∙ sym (e z))))
    stable_is_one (y ∷ ys) [] hy hz e = absurd (true≢false (ap some (sym (filtered_itself y ys) ∙ e y)))
    stable_is_one (y ∷ ys) (z ∷ zs) hy hz e =
        let ay = both_true (none_below y ys) (is_sorted ys) hy in
        let az = both_true (none_below z zs) (is_sorted zs) hz in
        let same : y ≡ z = same_first y z ys zs (not_before y z ys zs az.0 (e y)) (not_before z y zs ys ay.0 (sym (e z))) (e y) in
        let rests : ys ≡ zs = stable_is_one ys zs ay.1 az.1 (λ x. same_rest (ties lt x y) y (filter (ties lt x) ys) (filter (ties lt x) zs)
        (e x ∙ ap (λ w. cond (ties lt x w) (w ∷ filter (ties lt x) zs) (filter (ties lt x) zs)) (sym same))) in
        λ i. same i ∷ rests i

    -- ---- what std's sorts say, place by place

    below_rest : (x y : X) (ys : List X) → lt y x ≡ false → none_below y ys ≡ true → none_below x ys ≡ true
    below_rest x y [] e h = refl
    below_rest x y (w ∷ ws) e h =
        let parts = both_true (not (lt w y)) (none_below y ws) h in
        ap (λ c. not c && none_below x ws) (o.chain w y x (not_true (lt w y) parts.0) e) ∙ below_rest x y ws e parts.1

    sorted_head : (x : X) (ys : List X) → ((y : X) (zs : List X) → ys ≡ y ∷ zs → lt y x ≡ false) → is_sorted ys ≡ true → is_sorted (x ∷ ys) ≡ true
    sorted_head x [] e h = refl
    sorted_head x (y ∷ zs) e h =
        let parts = both_true (none_below y zs) (is_sorted zs) h in
        let less = e y zs refl in
        ap (λ c. (not c && none_below x zs) && (none_below y zs && is_sorted zs)) less
        ∙ ap (λ c. c && (none_below y zs && is_sorted zs)) (below_rest x y zs less parts.0) ∙ h

    pub places_sorted : (xs : List X) → IsSortedBy lt xs → is_sorted xs ≡ true
    places_sorted [] s = refl
    places_sorted (x ∷ xs) s =
        sorted_head x xs (λ y zs e. ap (λ l. lt (get_or l 0 x) x) (sym e) ∙ s 0 x (omega arith) (subst (λ l. 1 < suc (length l)) (sym e) (omega arith))) (places_sorted xs (λ k d l h.
        let e : suc k + 1 ≡ suc (k + 1) = omega arith in ap (λ n. lt (get_or (x ∷ xs) n d) (get_or xs k d)) (sym e) ∙ s (suc k) d (omega arith) (omega (arith, h))))

    pub sorted_places : (xs : List X) → is_sorted xs ≡ true → IsSortedBy lt xs
    sorted_places [] h k d lo l = absurd (omega arith)
    sorted_places (x ∷ []) h k d lo l = absurd (omega arith)
    sorted_places (x ∷ y ∷ ys) h zero d lo l = not_true (lt y x) (both_true (not (lt y x)) (none_below x ys) (both_true (none_below x (y ∷ ys)) (is_sorted (y ∷ ys)) h).0).0
    sorted_places (x ∷ y ∷ ys) h (suc k) d lo l =
        let e : suc k + 1 ≡ suc (k + 1) = omega arith in
        ap (λ n. lt (get_or (x ∷ y ∷ ys) n d) (get_or (y ∷ ys) k d)) e
        ∙ sorted_places (y ∷ ys) (both_true (none_below x (y ∷ ys)) (is_sorted (y ∷ ys)) h).1 k d (omega arith) (omega (arith, l))
