use Rattle.std.proofs.Common.{◌≡◌, ◌++◌, drop, map, is_some, option_map}
use Rattle.std.specs.List.{list_all}
use Rattle.jpql_trees.specs.declared.tree.Item.{Item}
use Rattle.jpql_types.specs.Typing.{all_some}
use Rattle.jpql_types.specs.Statements.{item_sort}
use Rattle.jpql_types.specs.Trees.{typed_value}
use Rattle.jpql_types.proofs.select.typed_items.Given as goal

abbrev pub invariant-loop-item : goal.invariant-loop-item
invariant-loop-item l =
    let sort = item_sort l.context.metamodel.now l.context.parameters.now l.select l.scope in
    let tree = λ (i : Item). typed_value l.context.metamodel.now l.context.parameters.now l.scope i.value in
    let left = drop l.item-index l.select.items in
    record {
      typed : list_all (λ i. is_some (sort i)) l.select.items ≡ list_all (λ i. is_some (sort i)) left;
      sorts : all_some (map sort l.select.items) ≡ option_map (λ more. l.sorts ++ more) (all_some (map sort left));
      trees : map tree l.select.items ≡ l.found ++ map tree left;
    }
