use Rattle.std.proofs.Common.{◌≡◌, ◌++◌, drop}
use Rattle.std.specs.List.{flat_map}
use Rattle.jpql_types.specs.Names.{in_item}
use Rattle.jpql_types.proofs.names.add_in_items.Given as goal

abbrev pub invariant-loop-item : goal.invariant-loop-item
invariant-loop-item l =
    l.fn.names ++ flat_map (in_item l.which) l.items ≡ l.names ++ flat_map (in_item l.which) (drop l.item-index l.items)
