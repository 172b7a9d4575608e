use Rattle.std.proofs.Common.{◌≡◌, ◌≤◌, drop, length}
use Rattle.jpa_object_rows.specs.meaning.Sets.{key_after}
use Rattle.jpa_object_rows.proofs.mapper.targets.begins_with.Given as goal

abbrev pub invariant-loop-i : goal.invariant-loop-i
invariant-loop-i l = record {
  rest : key_after (drop l.i l.front) (drop l.i l.key) ≡ key_after l.front l.key;
  within : l.i ≤ length l.key;
}
