use Rattle.std.proofs.Common.{◌≡◌, ◌∙◌, ◌<◌, ap, sym, subst, length, true, false}
use Rattle.std.specs.Prelude.{not, ◌||◌}
use Rattle.jpa_model.specs.Chains.{is_held_by, relation_at}
use Rattle.jpa_questions.specs.by_key.Own.{is_single_side, is_single_if_held}
use Rattle.jpa_questions.proofs.by_key.Below.{fails_below}
use Rattle.jpa_questions.proofs.by_key.held.is_single.Goals as goal

pub returns-then-not-is_single_at : goal.returns-then-not-is_single_at
returns-then-not-is_single_at c =
    let m = c.args.metamodel.now in
    let kind = c.loop-kind.kind in
    let held : is_held_by m c.args.class c.args.relation kind ≡ true = sym c.is_held_by.ensures ∙ c.if-is_held_by.true in
    let lost : is_single_side (relation_at m kind c.args.relation).side ≡ false = sym c.is_single_at.ensures ∙ c.if-not-is_single_at.true in
    sym
    (fails_below (is_single_if_held m c.args.class c.args.relation) (length m.entities) kind (subst (λ n. kind < n) (ap length c.entities-kind-end.ensures) c.loop-kind-test.true)
    (λ i. not (held i) || lost i))
