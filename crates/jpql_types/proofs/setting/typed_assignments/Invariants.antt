use Rattle.std.proofs.Common.{◌≡◌, ◌++◌, drop, map}
use Rattle.std.specs.List.{list_all}
use Rattle.jpql_types.specs.Statements.{is_assignment_typed}
use Rattle.jpql_types.specs.Trees.{typed_assignment}
use Rattle.jpql_types.proofs.setting.typed_assignments.Given as goal

abbrev pub invariant-loop-assignment : goal.invariant-loop-assignment
invariant-loop-assignment l =
    let is_typed = is_assignment_typed l.context.metamodel.now l.context.parameters.now l.scope in
    let tree = typed_assignment l.context.metamodel.now l.context.parameters.now l.scope in
    record {
      typed : list_all is_typed l.assignments ≡ list_all is_typed (drop l.assignment-index l.assignments);
      trees : map tree l.assignments ≡ l.found ++ map tree (drop l.assignment-index l.assignments);
    }
