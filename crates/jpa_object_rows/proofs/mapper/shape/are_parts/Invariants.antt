use Rattle.std.proofs.Common.{◌≡◌, ◌≤◌, drop, length}
use Rattle.jpa_stored.specs.objects.Sets.{each_fits}
use Rattle.jpa_object_rows.specs.mapper.Guess.{is_part}
use Rattle.jpa_object_rows.proofs.mapper.shape.are_parts.Given as goal

abbrev pub invariant-loop-i : goal.invariant-loop-i
invariant-loop-i l = record {
  rest : each_fits is_part (drop l.i l.parts) (drop l.i l.key) ≡ each_fits is_part l.parts l.key;
  within : l.i ≤ length l.key;
}
