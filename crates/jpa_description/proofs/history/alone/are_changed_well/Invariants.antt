use Rattle.std.proofs.Common.{◌≡◌}
use Rattle.jpa_description.specs.history.Condition.{all_paired, is_changed_well}
use Rattle.jpa_description.proofs.history.alone.are_changed_well.Given as goal

abbrev pub invariant-loop-attribute : goal.invariant-loop-attribute
invariant-loop-attribute l = record {
  next : (goal.iterator-loop-attribute).can_next l.attribute-iterator;
  finite : (goal.iterator-loop-attribute).is_finite l.attribute-iterator;
  same : all_paired is_changed_well l.attribute-iterator.a.rest.now l.attribute-iterator.b.rest.now
      ≡ all_paired is_changed_well l.attributes l.changes;
}
