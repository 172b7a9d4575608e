use Rattle.std.proofs.Common.{◌≡◌, ◌∙◌, ap, sym, true, false, nat_le}
use Rattle.std.specs.Prelude.{◌&&◌}
use Rattle.std.specs.List.{list_all}
use Rattle.jpql_trees.specs.declared.typed.typed.TypedCondition.TheViews.{out-TypedBlock, out-TypedSource}
use Rattle.jpql_meaning.specs.plan.Alone.{is_alone_join, is_alone_origin, is_alone_source, is_alone_value}
use Rattle.jpql_run.proofs.AloneParts.{alone_if, alone_of_block, alone_of_source}
use Rattle.jpql_run.proofs.alone.+is_alone.Goals as goal

pub is_alone_block-returns-then-are_alone_sources : goal.is_alone_block-returns-then-are_alone_sources
is_alone_block-returns-then-are_alone_sources t c =
    let n = c.args.around in
    let b = out-TypedBlock c.args.block.now in
    let item : is_alone_value n b.item ≡ true = sym c.is_alone_value.ensures ∙ c.if-is_alone_value.true in
    let sources : list_all (is_alone_source n) b.sources ≡ true = sym (c.are_alone_sources.ensures ∙ ap (list_all (is_alone_source n)) c.as_slice.ensures) ∙ c.if-are_alone_sources.true in
    c.is_any_alone.ensures ∙ sym (alone_of_block n c.args.block.now ∙ (λ i. item i && (sources i && alone_if n b.filter)))

pub is_alone_block-returns-else-are_alone_sources : goal.is_alone_block-returns-else-are_alone_sources
is_alone_block-returns-else-are_alone_sources t c =
    let n = c.args.around in
    let b = out-TypedBlock c.args.block.now in
    let item : is_alone_value n b.item ≡ true = sym c.is_alone_value.ensures ∙ c.if-is_alone_value.true in
    let sources : list_all (is_alone_source n) b.sources ≡ false = sym (c.are_alone_sources.ensures ∙ ap (list_all (is_alone_source n)) c.as_slice.ensures) ∙ c.if-are_alone_sources.false in
    c.if-are_alone_sources.false ∙ sym (alone_of_block n c.args.block.now ∙ (λ i. item i && (sources i && alone_if n b.filter)))

pub is_alone_source-returns-then-is_alone_origin : goal.is_alone_source-returns-then-is_alone_origin
is_alone_source-returns-then-is_alone_origin t c =
    let n = c.args.around in
    let x = out-TypedSource c.args.source.now in
    let origin : is_alone_origin n x.origin ≡ true = sym c.is_alone_origin.ensures ∙ c.if-is_alone_origin.true in
    c.are_alone_joins.ensures ∙ ap (list_all (is_alone_join n)) c.as_slice.ensures
    ∙ sym (alone_of_source n c.args.source.now ∙ ap (λ b. b && list_all (is_alone_join n) x.joins) origin)
