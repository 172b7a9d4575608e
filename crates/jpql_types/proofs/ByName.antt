-- What is found by name is what a walk finds.
use Rattle.std.proofs.Common.{◌≡◌, refl, ap, ◌∙◌, ℕ, ◌+◌, Bool, true, false, ◌||◌, cond, List, [], ◌∷◌, length, slice_get, find, is_some, Option, Some, None}
use Rattle.std.specs.Cmp.{eq_by_cmp_equiv}
use Rattle.std.specs.Cmp.Lexicographic.{nat_list_cmp_total}
use Rattle.std.specs.List.{list_any, position_from}
use Rattle.std.proofs.Math.Dec.{ltb}
use Rattle.std.proofs.lemmas.Bool.{ltb-false}
use Rattle.std.proofs.lemmas.Option.{slice_get_past}
use Rattle.std.proofs.lemmas.List.Folds.{find_at}
use Rattle.std.proofs.lemmas.Iterator.Adapters.{position_from-zero}
use Rattle.jpa_model.specs.Chains.{same_name}
use Rattle.jpa_model.specs.WellFormed.{is_some_that}
use Rattle.jpql_trees.specs.tree.Names.{Text}
use Rattle.jpql_trees.specs.tree.Steps.{◌>>=◌}
use Rattle.jpql_types.specs.Indexes.{has_name}

-- ---- which of two names comes first is one

pub same_either_way : (a b : Text) → same_name a b ≡ same_name b a
same_either_way a b = (eq_by_cmp_equiv nat_list_cmp_total).symm a b

named_either_way : (q : Text) (name : Option Text) → has_name q name ≡ is_some_that (same_name q) name
named_either_way q None = refl
named_either_way q (Some name) = same_either_way name q

module _ {A : Type 0} (name : A → Option Text) (q : Text) where
  pub place_either_way : (i : ℕ) (xs : List A) → position_from (λ x. has_name q (name x)) i xs ≡ position_from (λ x. is_some_that (same_name q) (name x)) i xs
  place_either_way i [] = refl
  place_either_way i (x ∷ xs) =
      ap (λ b. cond b (Some i) (position_from (λ y. has_name q (name y)) (i + 1) xs)) (named_either_way q (name x))
      ∙ ap (cond (is_some_that (same_name q) (name x)) (Some i)) (place_either_way (i + 1) xs)

pub any_either_way : (q : Text) (names : List Text) → list_any (λ name. same_name name q) names ≡ list_any (same_name q) names
any_either_way q [] = refl
any_either_way q (name ∷ names) =
    ap (λ b. b || list_any (λ other. same_name other q) names) (same_either_way name q) ∙ ap (λ b. same_name q name || b) (any_either_way q names)

-- ---- the first that passes a test, and whether one does, by its place

module _ {A : Type 0} (test : A → Bool) where
  inside : (xs : List A) (n : ℕ) (b : Bool) → ltb n (length xs) ≡ b → slice_get xs n ≡ (cond b (Some n) None >>= slice_get xs)
  inside xs n true e = refl
  inside xs n false e = slice_get_past xs n (ltb-false _ _ e)

  pub first_by_place : (xs : List A) → find test xs ≡ (position_from test 0 xs >>= slice_get xs)
  first_by_place xs = find_at test xs ∙ inside xs _ _ refl ∙ ap (λ o. o >>= slice_get xs) (position_from-zero test xs)

  is_here : (b : Bool) (i : ℕ) (o : Option ℕ) (rest : Bool) → is_some o ≡ rest → is_some (cond b (Some i) o) ≡ (b || rest)
  is_here true i o rest e = refl
  is_here false i o rest e = e

  pub any_by_place : (i : ℕ) (xs : List A) → is_some (position_from test i xs) ≡ list_any test xs
  any_by_place i [] = refl
  any_by_place i (x ∷ xs) = is_here (test x) i _ _ (any_by_place (i + 1) xs)
