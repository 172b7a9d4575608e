use Rattle.std.proofs.Common.{◌≡◌, ◌∙◌, ap, sym, true}
use Rattle.std.specs.Prelude.{filter}
use Rattle.std.specs.Ordering.{is_gt}
use Rattle.std.specs.BTreeMap.Range.{range_contains}
use Rattle.std.specs.declared.ops.Bound.TheVariants.{Included, Excluded}
use Rattle.jpa_stored.specs.ordered.Values.{Indexed, valued_cmp, valued_total, within}
use Rattle.jpa_stored.proofs.ordered.Ordered.{between_bounds, itself_forward, none_either}
use Rattle.jpa_stored.proofs.ordered.values.Values.walk.Goals as goal

pub range-requires : goal.range-requires
range-requires c = itself_forward valued_total c.in_ok-end.end

pub returns-then-is_gt-clause-walk : goal.returns-then-is_gt-clause-walk
returns-then-is_gt-clause-walk c =
    let keys = c.self.inside.entries.keys in
    let turned : is_gt (valued_cmp c.in_ok-start.start c.in_ok-end.end) ≡ true = ap is_gt (sym c.cmp.ensures) ∙ sym c.is_gt.ensures ∙ c.if-is_gt.true in
    c.range.ensures.between tt
    ∙ none_either valued_total c.in_ok-start.start c.in_ok-end.end turned keys
    ∙ (λ i. filter (range_contains valued_cmp (Included (c.in_ok-start.ensures.ok i)) (Excluded (c.in_ok-end.ensures.ok i))) keys)
    ∙ between_bounds c.args.number c.args.span.now keys
    ∙ ap (λ (v : Indexed). within v.entries c.args.number c.args.span.now) c.self.view_is

pub returns-clause-walk : goal.returns-clause-walk
returns-clause-walk c =
    let keys = c.self.inside.entries.keys in
    c.range-2.ensures.between tt
    ∙ (λ i. filter (range_contains valued_cmp (Included (c.in_ok-start.ensures.ok i)) (Excluded (c.in_ok-end.ensures.ok i))) keys)
    ∙ between_bounds c.args.number c.args.span.now keys
    ∙ ap (λ (v : Indexed). within v.entries c.args.number c.args.span.now) c.self.view_is
