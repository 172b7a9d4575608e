use Rattle.std.proofs.Common.{◌≡◌, ◌++◌, drop, map}
use Rattle.jpql_types.specs.Typing as typing
use Rattle.jpql_types.specs.Trees as trees
use Rattle.jpql_types.specs.Within.{IsScope}
use Rattle.jpql_types.proofs.conditions.+typed_condition.Given as goal

-- those that were typed, and those that are left
abbrev pub invariant-typed_joins-loop-join : goal.invariant-typed_joins-loop-join
invariant-typed_joins-loop-join l =
    let adds = map (typing.join_scope l.context.metamodel.now l.context.parameters.now l.context.groups.now) in
    let typed = map (trees.typed_join l.context.metamodel.now l.context.parameters.now) in
    record {
      widened : typing.in_turn (adds l.joins) l.fn.scope ≡ typing.in_turn (adds (drop l.join-index l.joins)) l.scope;
      made : (trees.in_scope (typed l.joins) l.fn.scope).0 ≡ l.found ++ (trees.in_scope (typed (drop l.join-index l.joins)) l.scope).0;
      after : (trees.in_scope (typed l.joins) l.fn.scope).1 ≡ (trees.in_scope (typed (drop l.join-index l.joins)) l.scope).1;
      within : IsScope l.context.metamodel.now l.scope;
    }

abbrev pub invariant-typed_sources-loop-source : goal.invariant-typed_sources-loop-source
invariant-typed_sources-loop-source l =
    let adds = map (typing.source_scope l.context.metamodel.now l.context.parameters.now l.context.groups.now) in
    let typed = map (trees.typed_source l.context.metamodel.now l.context.parameters.now) in
    record {
      widened : typing.in_turn (adds l.sources) l.fn.scope ≡ typing.in_turn (adds (drop l.source-index l.sources)) l.scope;
      made : (trees.in_scope (typed l.sources) l.fn.scope).0 ≡ l.found ++ (trees.in_scope (typed (drop l.source-index l.sources)) l.scope).0;
      after : (trees.in_scope (typed l.sources) l.fn.scope).1 ≡ (trees.in_scope (typed (drop l.source-index l.sources)) l.scope).1;
      within : IsScope l.context.metamodel.now l.scope;
    }
