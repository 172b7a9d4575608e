-- What values of several parts have, by their parts.
use Rattle.std.proofs.Common.{rules, ◌≡◌, ◌∙◌, Bool, List, map}
use Rattle.std.specs.List.{list_any}
use Rattle.jpa_model.proofs.Distinct.{list_any-map}
use Rattle.jpql_trees.specs.declared.tree.Function.{Function}
use Rattle.jpql_trees.specs.declared.typed.typed.TypedValue.{TypedValue}
use Rattle.jpql_trees.specs.declared.typed.typed.TypedValue.TheVariants as v
use Rattle.jpql_trees.specs.declared.typed.typed.TypedValue.TheFolds as folds
use Rattle.jpql_meaning.specs.plan.Selection.{has_aggregate}

parts : (f : Function) (all : List TypedValue) → has_aggregate (v.Call f all) ≡ list_any (λ a. a) (map has_aggregate all)
parts f all = search (rules, folds.the_lemmas)

pub call_has_aggregate : (f : Function) (all : List TypedValue) → has_aggregate (v.Call f all) ≡ list_any has_aggregate all
call_has_aggregate f all = parts f all ∙ list_any-map (λ (a : Bool). a) has_aggregate all
