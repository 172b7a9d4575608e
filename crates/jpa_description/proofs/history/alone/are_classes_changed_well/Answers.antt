use Rattle.std.proofs.Common.{inl, inr, sym, ◌∙◌, rules}
use Rattle.jpa_description.specs.history.Condition.{is_class_changed_well}
use Rattle.jpa_description.proofs.history.Paired.{pair_fails, pair_passes, pairs_end}
use Rattle.jpa_description.proofs.history.alone.are_classes_changed_well.Goals as goal

pub returns-then-not-is_class_changed_well : goal.returns-then-not-is_class_changed_well
returns-then-not-is_class_changed_well c =
    let steps = c.in-Some.ensures.steps in
    pair_fails is_class_changed_well _ _ _ _ _ _ _ steps.0 steps.1
    (sym c.is_class_changed_well.ensures ∙ c.if-not-is_class_changed_well.true) c.loop-entity.invariant.same

pub loop-entity-preserved : goal.loop-entity-preserved
loop-entity-preserved c =
    let steps = c.in-Some.ensures.steps in
    record {
      next = search rules;
      finite = tt;
      same = pair_passes is_class_changed_well _ _ _ _ _ _ _ steps.0 steps.1
          (sym c.is_class_changed_well.ensures ∙ c.if-not-is_class_changed_well.false) c.loop-entity.invariant.same;
    }

pub returns : goal.returns
returns c =
    elim c.in-None.ensures.steps [
      | inl e ↦ pairs_end is_class_changed_well _ _ _ (inl e.1.0) c.loop-entity.invariant.same
      | inr e ↦ pairs_end is_class_changed_well _ _ _ (inr e.1.0) c.loop-entity.invariant.same
    ]
