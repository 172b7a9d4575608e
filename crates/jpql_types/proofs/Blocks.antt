-- What a nested SELECT is typed by, once the scope is known that its FROM leaves.
use Rattle.std.proofs.Common.{rules, ◌≡◌, refl, ◌∙◌, ap, Bool, List, map, Option, Some, None, option_map}
use Rattle.std.specs.Prelude.{if◌then◌else◌}
use Rattle.jpa_model.specs.WellFormed.{if_some}
use Rattle.jpa_model.specs.declared.unit.PersistenceUnit.{PersistenceUnit}
use Rattle.jpql_trees.specs.declared.tree.Path.{Path}
use Rattle.jpql_trees.specs.declared.tree.Condition.TheViews.{out-Block}
use Rattle.jpql_trees.specs.declared.tree.Condition.TheFolds as condition
use Rattle.jpql_trees.specs.declared.tree.Block.{Block}
use Rattle.jpql_trees.specs.tree.Names.{Text}
use Rattle.jpql_trees.specs.tree.Steps.{◌>>=◌}
use Rattle.jpql_types.specs.declared.scope.Clause.{Clause}
use Rattle.jpql_types.specs.declared.sort.Sort.{Sort}
use Rattle.jpql_types.specs.Scope.{Scope}
use Rattle.jpql_trees.specs.declared.typed.typed.TypedBlock.{roll-TypedBlock}
use Rattle.jpql_types.specs.Typing as typing
use Rattle.jpql_types.specs.Trees as trees

if_some-map : {A B : Type 0} (p : B → Bool) (f : A → B) (x : Option A) → if_some p (option_map f x) ≡ if_some (λ a. p (f a)) x
if_some-map p f None = refl
if_some-map p f (Some a) = refl

block_in_turn : (m : PersistenceUnit) (ps : List (Text × Sort)) (groups : List Path) (b : Block) (outer : Scope)
    → typing.block_sort m ps groups b outer
    ≡ (typing.in_turn (map (typing.source_scope m ps groups) (out-Block b).sources) outer
    >>= λ s. if if_some (λ (c : Scope → Clause → Bool). c s Clause.Where) (option_map (λ c s k. typing.is_condition_typed m ps groups s k c) (out-Block b).filter)
    then typing.value_sort m ps groups s Clause.Where ((out-Block b).item).value else None)
block_in_turn m ps groups b outer = search (rules, condition.the_lemmas)

pub block_sort_in : (m : PersistenceUnit) (ps : List (Text × Sort)) (groups : List Path) (b : Block) (outer scope : Scope)
    → typing.in_turn (map (typing.source_scope m ps groups) (out-Block b).sources) outer ≡ Some scope
    → typing.block_sort m ps groups b outer
    ≡ (if if_some (typing.is_condition_typed m ps groups scope Clause.Where) (out-Block b).filter then typing.value_sort m ps groups scope Clause.Where ((out-Block b).item).value else None)
block_sort_in m ps groups b outer scope e =
    block_in_turn m ps groups b outer
    ∙ ap (λ o. o >>= λ s. if if_some (λ (c : Scope → Clause → Bool). c s Clause.Where) (option_map (λ c s k. typing.is_condition_typed m ps groups s k c) (out-Block b).filter) then typing.value_sort m ps groups s Clause.Where ((out-Block b).item).value else None) e
    ∙ ap (λ z. if z then typing.value_sort m ps groups scope Clause.Where ((out-Block b).item).value else None) (if_some-map (λ (c : Scope → Clause → Bool). c scope Clause.Where) (λ c s k. typing.is_condition_typed m ps groups s k c) (out-Block b).filter)

option_map-map : {A B C : Type 0} (g : B → C) (f : A → B) (x : Option A) → option_map g (option_map f x) ≡ option_map (λ a. g (f a)) x
option_map-map g f None = refl
option_map-map g f (Some a) = refl

pub block_tree : (m : PersistenceUnit) (ps : List (Text × Sort)) (b : Block) (outer : Scope)
    → let from = trees.in_scope (map (trees.typed_source m ps) (out-Block b).sources) outer in
    trees.typed_block m ps b outer
    ≡ roll-TypedBlock (record { item = trees.typed_value m ps from.1 ((out-Block b).item).value; sources = from.0; filter = trees.typed_filter m ps from.1 (out-Block b).filter })
block_tree m ps b outer = search (rules, condition.the_lemmas, option_map-map)
