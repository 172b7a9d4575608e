use Rattle.std.proofs.Common.{◌≡◌, ◌≤◌, drop, length}
use Rattle.jpa_stored.specs.objects.Sets.{each_fits}
use Rattle.jpa_object_rows.specs.mapper.Guess.{is_value}
use Rattle.jpa_object_rows.proofs.mapper.shape.are_values.Given as goal

abbrev pub invariant-loop-i : goal.invariant-loop-i
invariant-loop-i l = record {
  rest : each_fits is_value (drop l.i l.attributes) (drop l.i l.values) ≡ each_fits is_value l.attributes l.values;
  within : l.i ≤ length l.values;
}
