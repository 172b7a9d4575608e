use Rattle.std.proofs.Common.{◌≡◌, ◌-◌, length, find, Some}
use Rattle.std.specs.List.{range_with_len}
use Rattle.jpa_object_rows.specs.mapper.Guess.{is_class_by, class_by}
use Rattle.jpa_object_rows.proofs.mapper.guess.class_by.Given as goal

abbrev pub invariant-loop-class : goal.invariant-loop-class
invariant-loop-class l = find (is_class_by l.metamodel l.table l.text) (range_with_len l.class (length (l.metamodel).entities - l.class)) ≡ class_by l.metamodel l.table (Some l.text)
