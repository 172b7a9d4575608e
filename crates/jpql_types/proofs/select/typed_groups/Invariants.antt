use Rattle.std.proofs.Common.{◌≡◌, ◌++◌, drop, map}
use Rattle.std.specs.List.{list_all}
use Rattle.jpql_types.specs.Statements.{is_group_typed}
use Rattle.jpql_types.specs.Trees.{typed_path}
use Rattle.jpql_types.proofs.select.typed_groups.Given as goal

abbrev pub invariant-loop-group : goal.invariant-loop-group
invariant-loop-group l =
    let is_typed = is_group_typed l.context.metamodel.now l.context.parameters.now l.select l.scope in
    let tree = typed_path l.context.metamodel.now l.context.parameters.now l.scope in
    let left = drop l.group-index l.select.groups in
    record {
      typed : list_all is_typed l.select.groups ≡ list_all is_typed left;
      trees : map tree l.select.groups ≡ l.found ++ map tree left;
    }
