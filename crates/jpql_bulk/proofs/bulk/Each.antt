-- One more of what each gives.
use Rattle.std.proofs.Common.{◌≡◌, ◌∙◌, ap, sym, refl, ℕ, ◌+◌, ◌<◌, List, [], ◌∷◌, ◌++◌, map, drop, length, get_or, append_assoc}
use Rattle.std.proofs.lemmas.List.{drop_more, map-append}
use Rattle.jpql_meaning.specs.eval.Answers.{Answer, gives, overflows, under, both, every}

module _ {X Y A B : Type 0} (of : A → Answer B) (at : X → A) (view : Y → B) where
  -- what was found before, and what is left
  abbrev pub after : List Y → List X → Answer (List B)
  after found rest = under (λ more. map view found ++ more) (every (map of (map at rest)))

  one_more : (found : List Y) (y : Y) (r : Answer (List B)) → under (λ more. map view found ++ more) (under (λ more. view y ∷ more) r)
      ≡ under (λ more. map view (found ++ y ∷ []) ++ more) r
  one_more found y overflows = refl
  one_more found y (gives bs) =
      ap gives (sym (ap (λ ys. ys ++ bs) (map-append view found (y ∷ [])) ∙ append_assoc (map view found) (view y ∷ []) bs))

  pub found_more : (all : Answer (List B)) (found : List Y) (xs : List X) (i : ℕ) (x : X) (y : Y) → i < length xs → x ≡ get_or xs i x
      → of (at x) ≡ gives (view y) → all ≡ after found (drop i xs) → all ≡ after (found ++ y ∷ []) (drop (i + 1) xs)
  found_more all found xs i x y l is e h =
      h ∙ ap (after found) (drop_more xs i x l ∙ ap (λ z. z ∷ drop (i + 1) xs) (sym is))
      ∙ ap (λ a. under (λ more. map view found ++ more) (both (λ b bs. b ∷ bs) a (every (map of (map at (drop (i + 1) xs)))))) e
      ∙ one_more found y (every (map of (map at (drop (i + 1) xs))))
