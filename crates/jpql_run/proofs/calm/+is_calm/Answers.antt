use Rattle.std.proofs.Common.{◌≡◌, ◌∙◌, ap, sym, subst, true, false, ◌<◌, ◌≤◌, length, get_or}
use Rattle.std.specs.Prelude.{◌&&◌}
use Rattle.std.specs.List.{list_all}
use Rattle.jpql_trees.specs.declared.typed.typed.TypedCondition.TheViews.{out-TypedBlock, out-TypedSource}
use Rattle.jpql_run.specs.Calm.{is_calm_source, is_calm_value}
use Rattle.jpql_run.proofs.CalmParts.{calm_if, calm_of_block, calm_of_source, calm_on, none_left, one_fails}
use Rattle.jpql_run.proofs.calm.+is_calm.Goals as goal

pub is_calm_block-returns-then-are_calm_sources : goal.is_calm_block-returns-then-are_calm_sources
is_calm_block-returns-then-are_calm_sources t c =
    let b = out-TypedBlock c.args.block.now in
    let item : is_calm_value b.item ≡ true = sym c.is_calm_value.ensures ∙ c.if-is_calm_value.true in
    let sources : list_all is_calm_source b.sources ≡ true = sym (c.are_calm_sources.ensures ∙ ap (list_all is_calm_source) c.as_slice.ensures) ∙ c.if-are_calm_sources.true in
    c.is_any_calm.ensures ∙ sym (calm_of_block c.args.block.now ∙ (λ i. item i && (sources i && calm_if b.filter)))

pub is_calm_block-returns-else-are_calm_sources : goal.is_calm_block-returns-else-are_calm_sources
is_calm_block-returns-else-are_calm_sources t c =
    let b = out-TypedBlock c.args.block.now in
    let item : is_calm_value b.item ≡ true = sym c.is_calm_value.ensures ∙ c.if-is_calm_value.true in
    let sources : list_all is_calm_source b.sources ≡ false = sym (c.are_calm_sources.ensures ∙ ap (list_all is_calm_source) c.as_slice.ensures) ∙ c.if-are_calm_sources.false in
    c.if-are_calm_sources.false ∙ sym (calm_of_block c.args.block.now ∙ (λ i. item i && (sources i && calm_if b.filter)))

pub is_calm_source-returns-then-not-is_any_calm : goal.is_calm_source-returns-then-not-is_any_calm
is_calm_source-returns-then-not-is_any_calm t c =
    let xs = (out-TypedSource c.args.source.now).joins in
    let i = c.loop-join.join-index in
    let here : calm_on c.join-item.result ≡ false = sym c.is_any_calm.ensures ∙ c.if-not-is_any_calm.true in
    sym (calm_of_source c.args.source.now ∙ sym c.loop-join.invariant ∙ one_fails calm_on xs i c.join-item.result
    (subst (λ ys. i < length ys) c.as_slice-join-items.ensures c.loop-join-test.true) (c.join-item.is ∙ ap (λ ys. get_or ys i c.join-item.result) c.as_slice-join-items.ensures) here)

pub is_calm_source-returns : goal.is_calm_source-returns
is_calm_source-returns t c =
    let xs = (out-TypedSource c.args.source.now).joins in
    sym (calm_of_source c.args.source.now ∙ sym c.loop-join.invariant ∙ none_left calm_on xs c.loop-join.join-index (subst (λ ys. length ys ≤ c.loop-join.join-index) c.as_slice-join-items.ensures c.loop-join-test.false))
