-- Names in a value that is well typed mean something: by induction over its tree.
use Rattle.std.proofs.Common.{◌≡◌, ◌∙◌, refl, ap, sym, subst, List, [], ◌∷◌, map, Option, Some, option_map}
use Rattle.std.specs.List.{AllByRecursion}
use Rattle.jpa_model.specs.declared.unit.PersistenceUnit.{PersistenceUnit}
use Rattle.jpql_trees.specs.declared.tree.Path.{Path}
use Rattle.jpql_trees.specs.declared.tree.Value.{Value, Value-F, fold-Value}
use Rattle.jpql_trees.specs.declared.tree.Value.TheViews.{roll-Value}
use Rattle.jpql_trees.specs.declared.tree.Value.TheOpen as part
use Rattle.jpql_trees.specs.declared.tree.Value.TheFolds as tree
use Rattle.jpql_trees.specs.tree.Names.{Text}
use Rattle.jpql_trees.specs.tree.Steps.{◌>>=◌}
use Rattle.jpql_types.specs.declared.sort.Sort.{Sort}
use Rattle.jpql_trees.specs.declared.typed.typed.TypedValue.{TypedValue}
use Rattle.jpql_trees.specs.declared.typed.typed.TypedValue.TheVariants as v
use Rattle.jpql_types.specs.Scope.{Scope, path_of, resolved}
use Rattle.jpql_types.specs.Sorts.{integer, path_sort, collection_class, arithmetic_sort, call_sort, aggregate_sort}
use Rattle.jpql_types.specs.Typing.{all_some, allows_aggregates, sort_of_path, collection, sort_step, value_sort}
use Rattle.jpql_types.specs.Trees as trees
use Rattle.jpql_types.specs.Resolved as names
use Rattle.jpql_types.proofs.Options.{IsThere, there, there_before, there_if, all_there, both_of, more_of}

module _ (m : PersistenceUnit) (ps : List (Text × Sort)) (groups : List Path) (scope : Scope) where
  -- ---- paths

  pub path_resolved : (clause : _) (p : Path) → IsThere (resolved m groups scope clause p) → path_of m scope p ≡ Some (trees.typed_path m ps scope p)
  path_resolved clause p h = there trees.no_path (path_of m scope p) (there_before (path_of m scope p) _ h)

  pub sorted_path : (clause : _) (p : Path) → IsThere (sort_of_path m groups scope clause p) → path_of m scope p ≡ Some (trees.typed_path m ps scope p)
  sorted_path clause p h = path_resolved clause p (there_before (resolved m groups scope clause p) (λ path. path_sort m path) h)

  pub collected_path : (clause : _) (p : Path) → IsThere (collection m groups scope clause p) → path_of m scope p ≡ Some (trees.typed_path m ps scope p)
  collected_path clause p h = path_resolved clause p (there_before (resolved m groups scope clause p) (λ path. collection_class m path) h)

  -- ---- values

  abbrev pub IsResolved : Value → Type 0
  IsResolved a = (clause : _) → IsThere (value_sort m ps groups scope clause a) → names.value m ps scope a ≡ Some (trees.typed_value m ps scope a)

  sort_layer : (w : Value-F Value) → fold-Value _ (sort_step m ps groups scope) (roll-Value w)
      ≡ sort_step m ps groups scope (tree.map-Value Value _ (fold-Value _ (sort_step m ps groups scope)) w)
  sort_layer w = tree.fold-roll-Value _ (sort_step m ps groups scope) w

  tree_layer : (w : Value-F Value) → trees.typed_value m ps scope (roll-Value w) ≡ trees.value_step m ps scope (tree.map-Value Value TypedValue (trees.typed_value m ps scope) w)
  tree_layer w = tree.fold-roll-Value TypedValue (trees.value_step m ps scope) w

  name_layer : (w : Value-F Value) → names.value m ps scope (roll-Value w) ≡ names.value_step m ps scope (tree.map-Value Value (Option TypedValue) (names.value m ps scope) w)
  name_layer w = tree.fold-roll-Value (Option TypedValue) (names.value_step m ps scope) w

  from_layer : (w : Value-F Value)
      → ((clause : _) → IsThere (sort_step m ps groups scope (tree.map-Value Value _ (fold-Value _ (sort_step m ps groups scope)) w) clause)
      → names.value_step m ps scope (tree.map-Value Value (Option TypedValue) (names.value m ps scope) w) ≡ Some (trees.value_step m ps scope (tree.map-Value Value TypedValue (trees.typed_value m ps scope) w)))
      → IsResolved (roll-Value w)
  from_layer w k clause h = name_layer w ∙ k clause (subst (λ f. IsThere (f clause)) (sort_layer w) h) ∙ ap Some (sym (tree_layer w))

  abbrev Operands : Type 0
  Operands = List ((a : Value) × IsResolved a)

  operands : (clause : _) (all : Operands)
      → AllByRecursion IsThere (map (λ k. k clause) (map (fold-Value _ (sort_step m ps groups scope)) (map (λ z. z.0) all)))
      → all_some (map (names.value m ps scope) (map (λ z. z.0) all)) ≡ Some (map (trees.typed_value m ps scope) (map (λ z. z.0) all))
  operands clause [] h = refl
  operands clause (z ∷ all) h =
      more_of (names.value m ps scope z.0) (map (names.value m ps scope) (map (λ z. z.0) all)) (trees.typed_value m ps scope z.0) (map (trees.typed_value m ps scope) (map (λ z. z.0) all))
      (z.1 clause h.0) (operands clause all h.1)

  layer : (y : Value-F ((a : Value) × IsResolved a)) → IsResolved (roll-Value (tree.map-Value ((a : Value) × IsResolved a) Value (λ z. z.0) y))
  layer (part.Integer n) = from_layer (part.Integer n) (λ clause h. refl)
  layer (part.Text t) = from_layer (part.Text t) (λ clause h. refl)
  layer (part.Parameter name) = from_layer (part.Parameter name) (λ clause h. refl)
  layer (part.Path p) = from_layer (part.Path p) (λ clause h. ap (option_map v.Path) (sorted_path clause p h))
  layer (part.Signed s a) = from_layer (part.Signed s a.0)
      (λ clause h. ap (option_map (v.Signed s)) (a.1 clause (all_there (value_sort m ps groups scope clause a.0 ∷ []) (there_before (all_some (value_sort m ps groups scope clause a.0 ∷ [])) (λ all. arithmetic_sort all) h)).0))
  layer (part.Arithmetic op a b) = from_layer (part.Arithmetic op a.0 b.0)
      (λ clause h.
      let each = all_there (value_sort m ps groups scope clause a.0 ∷ value_sort m ps groups scope clause b.0 ∷ []) (there_before (all_some (value_sort m ps groups scope clause a.0 ∷ value_sort m ps groups scope clause b.0 ∷ [])) (λ all. arithmetic_sort all) h) in
      both_of (v.Arithmetic op) (names.value m ps scope a.0) (names.value m ps scope b.0) (trees.typed_value m ps scope a.0) (trees.typed_value m ps scope b.0) (a.1 clause each.0) (b.1 clause (each.1).0))
  layer (part.Call f all) = from_layer (part.Call f (map (λ z. z.0) all))
      (λ clause h. ap (option_map (v.Call f)) (operands clause all (all_there _ (there_before (all_some (map (λ k. k clause) (map (fold-Value _ (sort_step m ps groups scope)) (map (λ z. z.0) all)))) (λ sorts. call_sort f sorts) h))))
  layer (part.Size p) = from_layer (part.Size p) (λ clause h. ap (option_map v.Size) (collected_path clause p (there_before (collection m groups scope clause p) (λ class. Some integer) h)))
  layer (part.Aggregate g distinct a) = from_layer (part.Aggregate g distinct a.0)
      (λ clause h. ap (option_map (v.Aggregate g distinct))
      (a.1 _ (there_before (value_sort m ps groups scope _ a.0) (λ s. aggregate_sort g s)
      (there_if (allows_aggregates clause) (value_sort m ps groups scope _ a.0 >>= λ s. aggregate_sort g s) h))))

  pub value_resolved : (a : Value) → IsResolved a
  value_resolved = tree.ind-Value IsResolved (λ w y is. subst (λ z. IsResolved (roll-Value z)) is (layer y))

  -- of all of them
  pub values_resolved : (clause : _) (all : List Value) → AllByRecursion IsThere (map (value_sort m ps groups scope clause) all) → all_some (map (names.value m ps scope) all) ≡ Some (map (trees.typed_value m ps scope) all)
  values_resolved clause [] h = refl
  values_resolved clause (a ∷ all) h =
      more_of (names.value m ps scope a) (map (names.value m ps scope) all) (trees.typed_value m ps scope a) (map (trees.typed_value m ps scope) all) (value_resolved a clause h.0) (values_resolved clause all h.1)
