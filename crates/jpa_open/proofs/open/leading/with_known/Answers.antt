use Rattle.std.proofs.Common.{◌∙◌, ap, ◌||◌, ◌+◌}
use Rattle.std.specs.Prelude.{filter}
use Rattle.std.specs.BTreeMap.Range.{range_contains}
use Rattle.std.specs.declared.ops.Bound.TheVariants.{Included, Excluded}
use Rattle.jpa_value.specs.Value.{same_identity}
use Rattle.jpa_open.specs.declared.reference.Reference.{Reference}
use Rattle.jpa_open.specs.References.{between, has_owner, reference_cmp, first_under}
use Rattle.jpa_open.proofs.Indexed.{none_left, any_mapped}
use Rattle.jpa_open.proofs.Led.{among}
use Rattle.jpa_open.proofs.open.leading.with_known.Goals as goal

pub returns : goal.returns
returns c q =
    let index = c.args.index.now.keys in
    c.loop-reference.invariant.known q
    ∙ ap (λ b. b || among c.args.found.items q)
    (any_mapped (λ (r : Reference). same_identity q r.owner) c.loop-reference.yielded
    ∙ ap (λ rs. has_owner rs q)
    (none_left _ _ _ c.loop-reference.invariant.rest c.in-None.ensures.steps.0 ∙ c.into_iter-reference-iterator.ensures.into_iter_gives ∙ c.range-reference-items.ensures.between tt
    ∙ (λ i. filter (range_contains reference_cmp (Included (c.first_under-from.ensures i)) (Excluded (c.first_under-to.ensures i))) index))
    ∙ (λ i. has_owner (between (first_under (c.print_of-print.ensures.print i) (c.holder_of-holder.ensures.holder i)) (first_under (c.print_of-print.ensures.print i) (c.holder_of-holder.ensures.holder i + 1)) index) q))
