use Rattle.std.proofs.Common.{◌≡◌, ◌≤◌, length, drop}
use Rattle.jpa_rows.specs.keys.Reading.{joined, key_at}
use Rattle.jpa_rows.proofs.keys.read.read_key.Given as goal

abbrev pub invariant-loop-kind : goal.invariant-loop-kind
invariant-loop-kind l = record {
  within : l.at ≤ length l.bytes;
  read : key_at l.kinds l.bytes ≡ joined l.key l.at (key_at (drop l.kind-index l.kinds) (drop l.at l.bytes));
}
