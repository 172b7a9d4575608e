-- What a key of ORDER BY is typed beside (chapter 4.10).
use Rattle.std.specs.Prelude.{◌≡◌, List, map, Some}
use Rattle.jpa_model.specs.declared.unit.PersistenceUnit.{PersistenceUnit}
use Rattle.jpql_trees.specs.declared.tree.Item.{Item}
use Rattle.jpql_trees.specs.declared.tree.Select.{Select}
use Rattle.jpql_trees.specs.tree.Names.{Text}
use Rattle.jpql_types.specs.declared.sort.Sort.{Sort}
use Rattle.jpql_types.specs.Scope.{Scope}
use Rattle.jpql_types.specs.Statements.{item_sort}
use Rattle.jpql_types.specs.Typing.{all_some}

-- the items of a SELECT, as their names and as their paths find them, and what each is of
pub record AreItems (m : PersistenceUnit) (parameters : List (Text × Sort)) (q : Select) (scope : Scope)
    (by_name by_path : List Item) (of : List Sort) : Type 0 where
  pub names : by_name ≡ q.items
  pub paths : by_path ≡ q.items
  pub sorts : all_some (map (item_sort m parameters q scope) q.items) ≡ Some of
