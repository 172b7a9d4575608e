-- Null steps of functions, by those of their operands.
use Rattle.std.proofs.Common.{rules, ◌≡◌, ◌∙◌, Bool, List, map}
use Rattle.std.specs.List.{list_any}
use Rattle.jpa_model.proofs.Distinct.{list_any-map}
use Rattle.jpa_model.specs.declared.unit.PersistenceUnit.{PersistenceUnit}
use Rattle.jpa_stored.specs.objects.Sets.{StoredSet}
use Rattle.jpql_trees.specs.declared.tree.Function.{Function}
use Rattle.jpql_trees.specs.declared.typed.typed.TypedValue.{TypedValue, fold-TypedValue}
use Rattle.jpql_trees.specs.declared.typed.typed.TypedValue.TheVariants as v
use Rattle.jpql_trees.specs.declared.typed.typed.TypedValue.TheFolds as folds
use Rattle.jpql_meaning.specs.declared.eval.datum.Datum.{Datum}
use Rattle.jpql_meaning.specs.plan.Paths.{Tuple}
use Rattle.jpql_meaning.specs.plan.Meaning.{value_drops, drops_step}

module _ (m : PersistenceUnit) (s : StoredSet) (ps : List Datum) where
  parts : (f : Function) (all : List TypedValue) (t : Tuple)
      → value_drops m s ps (v.Call f all) t ≡ list_any (λ (a : Tuple → Bool). a t) (map (fold-TypedValue (Tuple → Bool) (drops_step m s ps)) all)
  parts f all t = search (rules, folds.the_lemmas)

  pub value_drops_call : (f : Function) (all : List TypedValue) (t : Tuple) → value_drops m s ps (v.Call f all) t ≡ list_any (λ a. value_drops m s ps a t) all
  value_drops_call f all t = parts f all t ∙ list_any-map (λ (a : Tuple → Bool). a t) (fold-TypedValue (Tuple → Bool) (drops_step m s ps)) all
