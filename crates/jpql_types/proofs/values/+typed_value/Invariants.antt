use Rattle.std.proofs.Common.{◌≡◌, ◌++◌, drop, map, option_map}
use Rattle.jpql_types.specs.Typing.{sorts_of}
use Rattle.jpql_types.specs.Trees.{typed_value}
use Rattle.jpql_types.proofs.values.+typed_value.Given as goal

abbrev pub invariant-typed_values-loop-value : goal.invariant-typed_values-loop-value
invariant-typed_values-loop-value l =
    let of = sorts_of l.context.metamodel.now l.context.parameters.now l.context.groups.now l.scope l.clause in
    let tree = typed_value l.context.metamodel.now l.context.parameters.now l.scope in
    record {
      sorts : of l.values ≡ option_map (λ more. l.sorts ++ more) (of (drop l.value-index l.values));
      trees : map tree l.values ≡ l.found ++ map tree (drop l.value-index l.values);
    }
