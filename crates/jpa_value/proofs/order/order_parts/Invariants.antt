use Rattle.std.proofs.Common.{◌≡◌, ◌≤◌, drop, length}
use Rattle.jpa_value.specs.Value.{key_cmp}
use Rattle.jpa_value.proofs.order.order_parts.Given as goal

abbrev pub invariant-loop-i : goal.invariant-loop-i
invariant-loop-i l = record {
  rest : key_cmp (drop l.i l.a) (drop l.i l.b) ≡ key_cmp l.a l.b;
  within : l.i ≤ length l.b;
}
