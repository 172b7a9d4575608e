use Rattle.std.proofs.Common.{rules, arith, ◌≡◌, map, Some}
use Rattle.std.proofs.lemmas.Grind.{common_steps}
use Rattle.jpql_trees.specs.declared.tree.Condition.TheViews.{out-Block}
use Rattle.jpql_types.specs.Typing as typing
use Rattle.jpql_types.proofs.Blocks.{block_sort_in, block_tree}
use Rattle.jpql_types.proofs.conditions.+typed_condition.Goals as goal

pub typed_block-returns-in_err-item-clause-sort : goal.typed_block-returns-in_err-item-clause-sort
typed_block-returns-in_err-item-clause-sort t c =
    let m = c.args.context.now.metamodel.now in
    let parameters = c.args.context.now.parameters.now in
    let groups = c.args.context.now.groups.now in
    let e : typing.in_turn (map (typing.source_scope m parameters groups) (out-Block c.args.block.now).sources) c.args.outer.now ≡ Some c.in_ok-scope-2.scope = first_of (search rules, grind (arith, common_steps)) in
    rw (block_sort_in m parameters groups c.args.block.now c.args.outer.now c.in_ok-scope-2.scope e) (first_of (search rules, grind (arith, common_steps)))

pub typed_block-returns-clause-sort : goal.typed_block-returns-clause-sort
typed_block-returns-clause-sort t c =
    let m = c.args.context.now.metamodel.now in
    let parameters = c.args.context.now.parameters.now in
    let groups = c.args.context.now.groups.now in
    let e : typing.in_turn (map (typing.source_scope m parameters groups) (out-Block c.args.block.now).sources) c.args.outer.now ≡ Some c.in_ok-scope-2.scope = first_of (search rules, grind (arith, common_steps)) in
    rw (block_sort_in m parameters groups c.args.block.now c.args.outer.now c.in_ok-scope-2.scope e) (first_of (search rules, grind (arith, common_steps)))

pub typed_block-returns-clause-tree : goal.typed_block-returns-clause-tree
typed_block-returns-clause-tree t c =
    rw (block_tree c.args.context.now.metamodel.now c.args.context.now.parameters.now c.args.block.now c.args.outer.now) (first_of (search rules, grind (arith, common_steps)))
