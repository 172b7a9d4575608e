use Rattle.std.proofs.Common.{◌≡◌, ◌∙◌, List, [], map, Some, subst}
use Rattle.jpql_trees.specs.declared.tree.Path.{Path}
use Rattle.jpql_trees.specs.declared.tree.Source.{Source}
use Rattle.jpql_types.specs.Scope.{Scope}
use Rattle.jpql_types.specs.Typing.{in_turn, source_scope}
use Rattle.jpql_types.specs.Statements.{is_select_typed_in}
use Rattle.jpql_types.specs.Gives.{IsJudged}
use Rattle.jpql_types.proofs.Judged.{judged_in}
use Rattle.jpql_types.proofs.select.typed_select.Goals as goal

pub returns-clause-typed : goal.returns-clause-typed
returns-clause-typed c =
    let m = c.args.metamodel.now in
    let ps = c.args.parameters.now in
    let q = c.args.select.now in
    let IsFrom = λ (groups : List Path) (sources : List Source) (first : Scope). in_turn (map (source_scope m ps groups) sources) first ≡ Some c.in_ok-scope.scope in
    let groups : c.in_ok-groups.groups ≡ q.groups = c.in_ok-groups.ensures ∙ c.as_slice.ensures in
    let from : IsFrom q.groups q.sources [] =
    subst (λ groups. IsFrom groups q.sources []) groups
    (subst (λ sources. IsFrom c.in_ok-groups.groups sources []) c.as_slice-2.ensures
    (subst (λ first. IsFrom c.in_ok-groups.groups c.as_slice-2.result.now first) c.new.ensures c.in_ok-scope.ensures.scope)) in
    judged_in c.typed_select_in.result _ (is_select_typed_in m ps q) c.in_ok-scope.scope from
    (subst (λ scope. IsJudged c.typed_select_in.result (is_select_typed_in m ps q scope)) c.as_slice-3.ensures c.typed_select_in.ensures.typed)
