use Rattle.std.proofs.Common.{◌≡◌, ◌++◌, drop, map}
use Rattle.std.specs.List.{list_all}
use Rattle.jpql_types.specs.Statements.{is_key_typed}
use Rattle.jpql_types.specs.Trees.{typed_key}
use Rattle.jpql_types.proofs.order.typed_keys.Given as goal

abbrev pub invariant-loop-key : goal.invariant-loop-key
invariant-loop-key l =
    let is_typed = is_key_typed l.context.metamodel.now l.context.parameters.now l.select l.scope in
    let tree = typed_key l.context.metamodel.now l.context.parameters.now l.scope l.select.items in
    record {
      typed : list_all is_typed l.select.order ≡ list_all is_typed (drop l.key-index l.select.order);
      trees : map tree l.select.order ≡ l.found ++ map tree (drop l.key-index l.select.order);
    }
