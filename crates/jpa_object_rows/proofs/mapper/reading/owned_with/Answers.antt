use Rattle.std.proofs.Common.{◌≡◌, ◌∙◌, ◌<◌, ap, subst, length, slice_index_or}
use Rattle.std.proofs.Math.ListN.{length-set}
use Rattle.jpa_model.specs.declared.unit.Relation.{Relation}
use Rattle.jpa_model.specs.Chains.{relations_of}
use Rattle.jpa_object_rows.specs.meaning.Sets.{targets_in}
use Rattle.jpa_object_rows.proofs.mapper.Refilled.{pairs_filled, others_filled}
use Rattle.jpa_object_rows.proofs.mapper.reading.owned_with.Goals as goal
use Rattle.jpa_object_rows.proofs.mapper.reading.owned_with.Goals.{in-ManyToMany+in_ok-found, in_default}

pub loop-at-preserved : goal.loop-at-preserved
loop-at-preserved c =
    let m = c.args.metamodel.now in
    let pairs = targets_in m c.args.pairs.now c.args.id.now in
    let relations = relations_of m c.args.class in
    let items = c.relations_of-relation-items.ensures.relations in
    let k = c.loop-at.at in
    let r : Relation = c.relation-item.result in
    let within : k < length relations = subst (λ rs. k < length rs) items c.loop-at-test.true in
    let here : r ≡ slice_index_or relations k r = c.relation-item.is ∙ ap (λ rs. slice_index_or rs k r) items in
    elim c.match-relation.branch [
      | in-ManyToMany+in_ok-found w ↦ record {
        filled = w.owned-is ∙ w.set.ensures
            ∙ pairs_filled pairs relations c.args.owned k r within c.requires.owned here c.loop-at.owned c.loop-at.invariant.filled w.in-ManyToMany.join w.in-ManyToMany.is w.in_ok-found.found w.in_ok-found.ensures.ok;
        whole = ap length (w.owned-is ∙ w.set.ensures) ∙ length-set c.loop-at.owned k w.in_ok-found.found ∙ c.loop-at.invariant.whole;
      }
      | in_default w ↦ record {
        filled = w.owned-is ∙ others_filled pairs relations c.args.owned k r within c.requires.owned here c.loop-at.owned c.loop-at.invariant.filled w.in_default.not-ManyToMany;
        whole = ap length w.owned-is ∙ c.loop-at.invariant.whole;
      }
    ]
