use Rattle.std.proofs.Common.{◌≡◌, ap, ◌∙◌, List}
use Rattle.std.specs.List.{list_any}
use Rattle.jpql_trees.specs.declared.tree.Item.{Item}
use Rattle.jpql_trees.specs.tree.Names.{Text}
use Rattle.jpql_types.specs.Indexes.{is_path, path_in}
use Rattle.jpql_types.proofs.ByPath.{kept_item, kept_by_step, kept_by_none}
use Rattle.jpql_types.proofs.order.is_kept.Goals as goal

pub returns-then-branch : goal.returns-then-branch
returns-then-branch c =
    let p = c.args.path.now in
    let has : c.in_ok-has.field-0 ≡ list_any (λ (i : Item). is_path p (path_in i.value)) c.args.items.now =
    c.in_ok-has.ensures
    ∙ ap (λ (names : List Text). list_any (λ (i : Item). is_path (record { variable = p.variable; names = names }) (path_in i.value)) c.args.items.now) c.as_slice.ensures in
    kept_item p c.args.steps c.args.items.now _ has c.if-branch.true

pub returns-then-has_variable : goal.returns-then-has_variable
returns-then-has_variable c =
    let p = c.args.path.now in
    let has : c.in_ok-has.field-0 ≡ list_any (λ (i : Item). is_path p (path_in i.value)) c.args.items.now =
    c.in_ok-has.ensures
    ∙ ap (λ (names : List Text). list_any (λ (i : Item). is_path (record { variable = p.variable; names = names }) (path_in i.value)) c.args.items.now) c.as_slice.ensures in
    kept_by_step p c.args.steps c.args.items.now _ _ has c.if-branch.false c.in_ok-has_variable.ensures c.if-has_variable.true

pub returns-else-has_variable : goal.returns-else-has_variable
returns-else-has_variable c =
    let p = c.args.path.now in
    let has : c.in_ok-has.field-0 ≡ list_any (λ (i : Item). is_path p (path_in i.value)) c.args.items.now =
    c.in_ok-has.ensures
    ∙ ap (λ (names : List Text). list_any (λ (i : Item). is_path (record { variable = p.variable; names = names }) (path_in i.value)) c.args.items.now) c.as_slice.ensures in
    kept_by_none p c.args.steps c.args.items.now _ _ has c.if-branch.false c.in_ok-has_variable.ensures c.if-has_variable.false
