-- Names that are distinct, from the last one on.
use Rattle.std.proofs.Common.{◌≡◌, refl, ap, sym, ◌∙◌, ℕ, zero, suc, Bool, true, false, not, ◌&&◌, ◌||◌, cond, List, [], ◌∷◌, drop}
use Rattle.std.specs.List.{list_any}
use Rattle.std.specs.Str.{bytes_eq}
use Rattle.std.proofs.lemmas.Map.Text.{is_eq-slice_cmp}
use Rattle.jpa_model.specs.Chains.{same_name}
use Rattle.jpql_trees.specs.tree.Names.{Text}
use Rattle.jpql_types.specs.Statements.{are_distinct}
use Rattle.jpql_types.proofs.ByName.{same_either_way}

and_false : (b : Bool) → (b && false) ≡ false
and_false true = refl
and_false false = refl

-- names that aren't distinct aren't so with others before them
pub twice_later : (same : Text → Text → Bool) (names : List Text) (n : ℕ) → are_distinct same (drop n names) ≡ false → are_distinct same names ≡ false
twice_later same names zero h = h
twice_later same [] (suc n) h = h
twice_later same (name ∷ names) (suc n) h = ap (λ b. not (list_any (same name) names) && b) (twice_later same names n h) ∙ and_false _

pub one_more : (q name : Text) (names : List Text) (was now : Bool) → now ≡ cond (bytes_eq name q) true was → was ≡ list_any (same_name q) names → now ≡ list_any (same_name q) (name ∷ names)
one_more q name names was now e h = e ∙ ap (λ b. cond b true was) (sym (is_eq-slice_cmp name q) ∙ same_either_way name q) ∙ by (same_name q name) h
  where
    by : (b : Bool) → was ≡ list_any (same_name q) names → cond b true was ≡ (b || list_any (same_name q) names)
    by true h = refl
    by false h = h

was_met : (was added : Bool) → added ≡ not was → added ≡ false → was ≡ true
was_met true added e h = refl
was_met false added e h = sym h ∙ e

was_not_met : (was added : Bool) → added ≡ not was → added ≡ true → was ≡ false
was_not_met true added e h = sym h ∙ e
was_not_met false added e h = refl

-- a name that was met among those after it, and one that wasn't
module _ (names : List Text) (n : ℕ) (name : Text) (rest : List Text) (was added : Bool) where
  pub again : drop n names ≡ name ∷ rest → was ≡ list_any (same_name name) rest → added ≡ not was → added ≡ false → false ≡ are_distinct same_name names
  again at met e h =
      sym
      (twice_later same_name names n
      (ap (are_distinct same_name) at ∙ ap (λ b. not b && are_distinct same_name rest) (sym met ∙ was_met was added e h)))

  pub first : drop n names ≡ name ∷ rest → was ≡ list_any (same_name name) rest → added ≡ not was → added ≡ true → are_distinct same_name rest ≡ true → are_distinct same_name (drop n names) ≡ true
  first at met e h distinct =
      ap (are_distinct same_name) at ∙ ap (λ b. not b && are_distinct same_name rest) (sym met ∙ was_not_met was added e h) ∙ distinct
