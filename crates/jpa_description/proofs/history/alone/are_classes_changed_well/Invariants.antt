use Rattle.std.proofs.Common.{◌≡◌}
use Rattle.jpa_description.specs.history.Condition.{all_paired, is_class_changed_well}
use Rattle.jpa_description.proofs.history.alone.are_classes_changed_well.Given as goal

abbrev pub invariant-loop-entity : goal.invariant-loop-entity
invariant-loop-entity l = record {
  next : (goal.iterator-loop-entity).can_next l.entity-iterator;
  finite : (goal.iterator-loop-entity).is_finite l.entity-iterator;
  same : all_paired is_class_changed_well l.entity-iterator.a.rest.now l.entity-iterator.b.rest.now
      ≡ all_paired is_class_changed_well l.entities l.classes;
}
