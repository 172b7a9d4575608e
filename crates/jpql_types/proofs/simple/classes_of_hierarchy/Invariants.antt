use Rattle.std.proofs.Common.{◌≡◌, ◌++◌, drop, map}
use Rattle.std.specs.List.{list_all}
use Rattle.jpql_types.specs.Typing.{is_of_hierarchy}
use Rattle.jpql_types.specs.Trees.{class_named}
use Rattle.jpql_types.proofs.simple.classes_of_hierarchy.Given as goal

abbrev pub invariant-loop-name : goal.invariant-loop-name
invariant-loop-name l =
    let is_typed = list_all (is_of_hierarchy l.context.metamodel.now l.class) in
    let named = map (class_named l.context.metamodel.now l.context.parameters.now) in
    record {
      typed : is_typed l.names ≡ is_typed (drop l.name-index l.names);
      classes : named l.names ≡ l.classes ++ named (drop l.name-index l.names);
    }
