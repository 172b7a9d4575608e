-- One more of a list without those that came before.
use Rattle.std.proofs.Common.{◌≡◌, ℕ, ◌+◌, ◌<◌, Bool, true, false, not, cond, ◌||◌, List, [], ◌∷◌, ◌++◌, map, reverse, length, drop, get_or, refl, sym, ap, ◌∙◌, append_assoc}
use Rattle.std.specs.List.{list_any}
use Rattle.std.proofs.lemmas.List.{reverse-append, map-append, drop_more}
use Rattle.jpql_meaning.specs.eval.Aggregates.{first_ones}

pub cond_or : (a b : Bool) → cond a true b ≡ (a || b)
cond_or true b = refl
cond_or false b = refl

module _ {A X : Type 0} (same : A → A → Bool) (view : X → A) where
  pub kept_then : (kept : List X) (x : X) → reverse (map view (kept ++ x ∷ [])) ≡ view x ∷ reverse (map view kept)
  kept_then kept x = ap reverse (map-append view kept (x ∷ [])) ∙ reverse-append (map view kept) (view x ∷ [])

  left_at : (kept xs : List X) (i : ℕ) (x : X) → i < length xs → x ≡ get_or xs i x
      → first_ones same (reverse (map view kept)) (map view (drop i xs))
      ≡ cond (list_any (λ b. same b (view x)) (reverse (map view kept))) (first_ones same (reverse (map view kept)) (map view (drop (i + 1) xs)))
      (view x ∷ first_ones same (view x ∷ reverse (map view kept)) (map view (drop (i + 1) xs)))
  left_at kept xs i x l at = ap (λ rest. first_ones same (reverse (map view kept)) (map view rest)) (drop_more xs i x l ∙ ap (λ y. y ∷ drop (i + 1) xs) (sym at))

  pub again_met : (all : List A) (kept xs : List X) (i : ℕ) (x : X) → i < length xs → x ≡ get_or xs i x
      → list_any (λ b. same b (view x)) (reverse (map view kept)) ≡ true
      → all ≡ map view kept ++ first_ones same (reverse (map view kept)) (map view (drop i xs))
      → all ≡ map view kept ++ first_ones same (reverse (map view kept)) (map view (drop (i + 1) xs))
  again_met all kept xs i x l at e h =
      let old = reverse (map view kept) in
      h ∙ ap (λ rest. map view kept ++ rest)
      (left_at kept xs i x l at
      ∙ ap (λ b. cond b (first_ones same old (map view (drop (i + 1) xs))) (view x ∷ first_ones same (view x ∷ old) (map view (drop (i + 1) xs)))) e)

  pub first_met : (all : List A) (kept xs : List X) (i : ℕ) (x y : X) → i < length xs → x ≡ get_or xs i x
      → list_any (λ b. same b (view x)) (reverse (map view kept)) ≡ false → view y ≡ view x
      → all ≡ map view kept ++ first_ones same (reverse (map view kept)) (map view (drop i xs))
      → all ≡ map view (kept ++ y ∷ []) ++ first_ones same (reverse (map view (kept ++ y ∷ []))) (map view (drop (i + 1) xs))
  first_met all kept xs i x y l at e v h =
      let old = reverse (map view kept) in
      let rest = map view (drop (i + 1) xs) in
      h ∙ ap (λ r. map view kept ++ r) (left_at kept xs i x l at ∙ ap (λ b. cond b (first_ones same old rest) (view x ∷ first_ones same (view x ∷ old) rest)) e)
      ∙ ap (λ z. map view kept ++ (z ∷ first_ones same (z ∷ old) rest)) (sym v)
      ∙ sym (append_assoc (map view kept) (view y ∷ []) (first_ones same (view y ∷ old) rest))
      ∙ ap (λ r. r ++ first_ones same (view y ∷ old) rest) (sym (map-append view kept (y ∷ [])))
      ∙ ap (λ r. map view (kept ++ y ∷ []) ++ first_ones same r rest) (sym (kept_then kept y))

pub was_there : (a : Bool) → not a ≡ false → a ≡ true
was_there true e = refl
was_there false e = sym e

pub was_new : (a : Bool) → not a ≡ true → a ≡ false
was_new true e = sym e
was_new false e = refl
