use Rattle.std.proofs.Common.{◌≡◌, ℕ, true, false, not, ◌&&◌, ◌||◌, List, Some, sym, ◌∙◌, subst, length}
use Rattle.std.specs.List.{list_any}
use Rattle.jpql_trees.specs.declared.tree.Item.{Item}
use Rattle.jpql_trees.specs.declared.tree.Path.{Path}
use Rattle.jpql_types.specs.declared.scope.Clause.{Clause}
use Rattle.jpql_trees.specs.declared.typed.path.TypedPath.{TypedPath}
use Rattle.jpql_types.specs.Sorts.{is_basic}
use Rattle.jpql_types.specs.Typing.{sort_of_path}
use Rattle.jpql_types.specs.Statements.{select_clause, is_kept_by}
use Rattle.jpql_types.proofs.Judged.{sorted_by}
use Rattle.jpql_types.proofs.order.by_path.Goals as goal

pub returns-then-not-branch-clause-typed : goal.returns-then-not-branch-clause-typed
returns-then-not-branch-clause-typed c =
    let q = c.args.select.now in
    let keeps = λ (n : ℕ). list_any (λ (i : Item). is_kept_by c.args.path.now n i.value) q.items in
    let IsOf = λ (groups : List Path) (clause : Clause). sort_of_path c.args.context.now.metamodel.now groups c.args.scope.now clause c.args.path.now ≡ Some c.in_ok-found.sort in
    let e : IsOf q.groups (select_clause q) = subst (λ groups. IsOf groups (select_clause q)) c.requires.groups (subst (λ clause. IsOf c.args.context.now.groups.now clause) c.requires.clause c.in_ok-found.ensures.sort) in
    let h : (is_basic c.in_ok-found.sort && (not q.is_distinct || keeps (length c.in_ok-found.found.steps))) ≡ false =
    subst (λ (n : ℕ). (is_basic c.in_ok-found.sort && (not q.is_distinct || keeps n)) ≡ false) c.len.ensures (sym c.in_ok-may_sort.ensures ∙ c.if-not-branch.true) in
    sorted_by _ _ q.is_distinct (λ (p : TypedPath). keeps (length p.steps)) _ _ e c.in_ok-found.ensures.meaning ∙ h

pub returns-clause-typed : goal.returns-clause-typed
returns-clause-typed c =
    let q = c.args.select.now in
    let keeps = λ (n : ℕ). list_any (λ (i : Item). is_kept_by c.args.path.now n i.value) q.items in
    let IsOf = λ (groups : List Path) (clause : Clause). sort_of_path c.args.context.now.metamodel.now groups c.args.scope.now clause c.args.path.now ≡ Some c.in_ok-found.sort in
    let e : IsOf q.groups (select_clause q) = subst (λ groups. IsOf groups (select_clause q)) c.requires.groups (subst (λ clause. IsOf c.args.context.now.groups.now clause) c.requires.clause c.in_ok-found.ensures.sort) in
    let h : (is_basic c.in_ok-found.sort && (not q.is_distinct || keeps (length c.in_ok-found.found.steps))) ≡ true =
    subst (λ (n : ℕ). (is_basic c.in_ok-found.sort && (not q.is_distinct || keeps n)) ≡ true) c.len.ensures (sym c.in_ok-may_sort.ensures ∙ c.if-not-branch.false) in
    sorted_by _ _ q.is_distinct (λ (p : TypedPath). keeps (length p.steps)) _ _ e c.in_ok-found.ensures.meaning ∙ h
