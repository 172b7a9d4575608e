-- WHERE of objects with a variable, asked of their tuples.
use Rattle.std.proofs.Common.{◌≡◌, ◌∙◌, refl, ap, sym, true, cond, List, [], ◌∷◌, map}
use Rattle.std.specs.Prelude.{filter_map}
use Rattle.jpql_trees.specs.declared.typed.typed.TypedCondition.{TypedCondition}
use Rattle.jpql_meaning.specs.declared.eval.datum.Truth.{Truth}
use Rattle.jpql_meaning.specs.declared.eval.failure.Failure.{Failure}
use Rattle.jpql_meaning.specs.eval.Answers.{Answer, gives, overflows, under, both}
use Rattle.jpql_meaning.specs.eval.Finds.{Fails}
use Rattle.jpql_meaning.specs.eval.Truths.{is_yes}
use Rattle.jpql_meaning.specs.plan.Meaning.{kept}
use Rattle.jpql_meaning.specs.plan.Paths.{Entry, Tuple}
use Rattle.jpql_run.specs.declared.run.Run.{Run}
use Rattle.jpql_bulk.specs.bulk.Bulks.{tuple_of, first_object}

module _ {A B : Type 0} (f : A → B) (test : B → Answer Truth) where
  with_one : (x : A) (t : Answer Truth) (more : Answer (List A))
      → both (λ t more. cond (is_yes t) (f x ∷ more) more) t (under (map f) more) ≡ under (map f) (both (λ t more. cond (is_yes t) (x ∷ more) more) t more)
  with_one x overflows more = refl
  with_one x (gives t) overflows = refl
  with_one x (gives Truth.Yes) (gives xs) = refl
  with_one x (gives Truth.No) (gives xs) = refl
  with_one x (gives Truth.Unknown) (gives xs) = refl

  -- what is made of those that are kept is what is kept of what is made
  pub kept_made : (xs : List A) → kept test (map f xs) ≡ under (map f) (kept (λ x. test (f x)) xs)
  kept_made [] = refl
  kept_made (x ∷ xs) = ap (both (λ t more. cond (is_yes t) (f x ∷ more) more) (test (f x))) (kept_made xs) ∙ with_one x (test (f x)) (kept (λ x. test (f x)) xs)

module _ (run : Run) where
  first_of : (es : List Entry) → filter_map first_object (map (tuple_of run true) es) ≡ es
  first_of [] = refl
  first_of (e ∷ es) = ap (λ xs. e ∷ xs) (first_of es)

  -- the objects of the tuples that are kept are those that are kept
  pub objects_kept : (test : Tuple → Answer Truth) (es : List Entry) (left : List Tuple) → kept test (map (tuple_of run true) es) ≡ gives left
      → kept (λ e. test (tuple_of run true e)) es ≡ gives (filter_map first_object left)
  objects_kept test es left h = by (kept (λ e. test (tuple_of run true e)) es) (sym (kept_made (tuple_of run true) test es) ∙ h)
    where
      by : (a : Answer (List Entry)) → under (map (tuple_of run true)) a ≡ gives left → a ≡ gives (filter_map first_object left)
      by overflows e = absurd cc
      by (gives xs) e = let same : map (tuple_of run true) xs ≡ left = cc in ap gives (sym (first_of xs) ∙ ap (filter_map first_object) same)

  pub objects_fail : (test : Tuple → Answer Truth) (es : List Entry) (f : Failure) → Fails f (kept test (map (tuple_of run true) es)) → Fails f (kept (λ e. test (tuple_of run true e)) es)
  objects_fail test es Failure.Memory h = tt
  objects_fail test es Failure.Overflow h = by (kept (λ e. test (tuple_of run true e)) es) (sym (kept_made (tuple_of run true) test es) ∙ h)
    where
      by : (a : Answer (List Entry)) → under (map (tuple_of run true)) a ≡ overflows → a ≡ overflows
      by overflows e = refl
      by (gives xs) e = absurd cc
