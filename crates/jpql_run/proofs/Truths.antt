-- What conditions of several parts mean, by those of their parts.
use Rattle.std.proofs.Common.{rules, ◌≡◌, ◌∙◌, refl, List, Option, map}
use Rattle.jpa_model.specs.declared.unit.PersistenceUnit.{PersistenceUnit}
use Rattle.jpa_stored.specs.objects.Sets.{StoredSet}
use Rattle.jpql_trees.specs.declared.tree.Against.{Against}
use Rattle.jpql_trees.specs.declared.tree.Comparison.{Comparison}
use Rattle.jpql_trees.specs.declared.typed.typed.TypedBlock.{TypedBlock}
use Rattle.jpql_trees.specs.declared.typed.typed.TypedValue.{TypedValue}
use Rattle.jpql_trees.specs.declared.typed.typed.TypedCondition.{TypedCondition}
use Rattle.jpql_trees.specs.declared.typed.typed.TypedCondition.TheVariants as is
use Rattle.jpql_trees.specs.declared.typed.typed.TypedCondition.TheFolds as folds
use Rattle.jpql_meaning.specs.declared.eval.datum.Datum.{Datum}
use Rattle.jpql_meaning.specs.eval.Answers.{Answer, gives, overflows, both, under}
use Rattle.jpql_meaning.specs.eval.Judged.{judged}
use Rattle.jpql_meaning.specs.eval.Truths.{or3, and3, truth_of}
use Rattle.jpql_meaning.specs.eval.Texts.{Text}
use Rattle.jpql_meaning.specs.eval.Calls.{like}
use Rattle.jpql_meaning.specs.plan.Meaning.{Case, value, truth, rows, exists, is_any, on_answer, among_all}

under_twice : {A B C : Type 0} (f : A → B) (g : B → C) (a : Answer A) → under (λ x. g (f x)) a ≡ under g (under f a)
under_twice f g (gives x) = refl
under_twice f g overflows = refl

module _ (m : PersistenceUnit) (s : StoredSet) (ps : List Datum) (at : Case) where
  pub truth_of_or : (a b : TypedCondition) → truth m s ps (is.Or a b) at ≡ both or3 (truth m s ps a at) (truth m s ps b at)
  truth_of_or a b = search (rules, folds.the_lemmas)

  pub truth_of_and : (a b : TypedCondition) → truth m s ps (is.And a b) at ≡ both and3 (truth m s ps a at) (truth m s ps b at)
  truth_of_and a b = search (rules, folds.the_lemmas)

  pub truth_of_in : (a : TypedValue) (all : List TypedValue) → truth m s ps (is.In a all) at ≡ on_answer (value m s ps a at) (λ x. among_all x (map (λ b. value m s ps b at) all))
  truth_of_in a all = search (rules, folds.the_lemmas)

  pub truth_of_like : (a pattern : TypedValue) (escape : Option Text) → truth m s ps (is.Like a pattern escape) at ≡ both (like escape) (value m s ps a at) (value m s ps pattern at)
  truth_of_like a pattern escape = search (rules, folds.the_lemmas)

  exists_by_rows : (b : TypedBlock) → truth m s ps (is.Exists b) at ≡ under (λ all. truth_of (is_any all)) (rows m s ps b at.tuple)
  exists_by_rows b = search (rules, folds.the_lemmas)

  pub truth_of_exists : (b : TypedBlock) → truth m s ps (is.Exists b) at ≡ under truth_of (exists m s ps b at.tuple)
  truth_of_exists b = exists_by_rows b ∙ under_twice is_any truth_of (rows m s ps b at.tuple)

  pub truth_of_rows : (against : Against) (op : Comparison) (a : TypedValue) (b : TypedBlock)
      → truth m s ps (is.Rows against op a b) at ≡ on_answer (value m s ps a at) (λ x. on_answer (rows m s ps b at.tuple) (judged against op x))
  truth_of_rows against op a b = search (rules, folds.the_lemmas)
