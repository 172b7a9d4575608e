-- The sorts of a call's arguments, taken one by one.
use Rattle.std.proofs.Common.{rules, ◌≡◌, List, map, Option, ◌∙◌, ap}
use Rattle.std.proofs.lemmas.Simd.{map-map}
use Rattle.jpa_model.specs.declared.unit.PersistenceUnit.{PersistenceUnit}
use Rattle.jpql_trees.specs.declared.tree.Function.{Function}
use Rattle.jpql_trees.specs.declared.tree.Path.{Path}
use Rattle.jpql_trees.specs.declared.tree.Value.{Value, fold-Value}
use Rattle.jpql_trees.specs.declared.tree.Value.TheVariants as v
use Rattle.jpql_trees.specs.declared.tree.Value.TheFolds as value
use Rattle.jpql_trees.specs.tree.Names.{Text}
use Rattle.jpql_trees.specs.tree.Steps.{◌>>=◌}
use Rattle.jpql_types.specs.declared.scope.Clause.{Clause}
use Rattle.jpql_types.specs.declared.sort.Sort.{Sort}
use Rattle.jpql_types.specs.Scope.{Scope}
use Rattle.jpql_types.specs.Sorts.{call_sort}
use Rattle.jpql_types.specs.Typing.{all_some, sort_step, value_sort, sorts_of}

in_turn : (m : PersistenceUnit) (ps : List (Text × Sort)) (groups : List Path) (scope : Scope) (clause : Clause) (f : Function) (values : List Value)
    → value_sort m ps groups scope clause (v.Call f values) ≡ (all_some (map (λ a. a clause) (map (fold-Value (Clause → Option Sort) (sort_step m ps groups scope)) values)) >>= λ sorts. call_sort f sorts)
in_turn m ps groups scope clause f values = search (rules, value.the_lemmas)

pub call_is_typed : (m : PersistenceUnit) (ps : List (Text × Sort)) (groups : List Path) (scope : Scope) (clause : Clause) (f : Function) (values : List Value)
    → value_sort m ps groups scope clause (v.Call f values) ≡ (sorts_of m ps groups scope clause values >>= λ sorts. call_sort f sorts)
call_is_typed m ps groups scope clause f values =
    in_turn m ps groups scope clause f values
    ∙ ap (λ sorts. all_some sorts >>= λ all. call_sort f all) (map-map (λ (a : Clause → Option Sort). a clause) (fold-Value (Clause → Option Sort) (sort_step m ps groups scope)) values)
