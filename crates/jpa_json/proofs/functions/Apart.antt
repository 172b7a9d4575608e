-- Lists in which nothing stands twice, item by item.
use Rattle.std.proofs.Common.{◌≡◌, ℕ, suc, ◌+◌, ◌<◌, ◌≤◌, Bool, true, false, List, length, get_or, drop, refl, sym, ap, ◌∙◌, add-one, drop-cons}
use Rattle.std.specs.Prelude.{not, ◌&&◌}
use Rattle.std.specs.List.{list_any}
use Rattle.std.proofs.lemmas.List.{drop_all}
use Rattle.jpa_json.specs.functions.Distinct.{none_meets}

module _ {A : Type 0} (meets : A → A → Bool) where
  from_here : (xs : List A) (i : ℕ) (x : A) → i < length xs → x ≡ get_or xs i x → none_meets meets (drop i xs) ≡ not (list_any (meets x) (drop (i + 1) xs)) && none_meets meets (drop (i + 1) xs)
  from_here xs i x h is = rw (add-one, drop-cons xs i x) (ap (λ y. not (list_any (meets y) (drop (suc i) xs)) && none_meets meets (drop (suc i) xs)) (sym is))

  one_meets : (xs : List A) (i : ℕ) (x : A) → i < length xs → x ≡ get_or xs i x → list_any (meets x) (drop (i + 1) xs) ≡ true → none_meets meets (drop i xs) ≡ false
  one_meets xs i x h is e = from_here xs i x h is ∙ ap (λ b. not b && none_meets meets (drop (i + 1) xs)) e

  goes_on : (xs : List A) (i : ℕ) (x : A) → i < length xs → x ≡ get_or xs i x → list_any (meets x) (drop (i + 1) xs) ≡ false → none_meets meets (drop i xs) ≡ none_meets meets (drop (i + 1) xs)
  goes_on xs i x h is e = from_here xs i x h is ∙ ap (λ b. not b && none_meets meets (drop (i + 1) xs)) e

  at_end : (xs : List A) (i : ℕ) → length xs ≤ i → none_meets meets (drop i xs) ≡ true
  at_end xs i h = rw (drop_all i xs h) refl
