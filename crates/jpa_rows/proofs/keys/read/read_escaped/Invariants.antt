use Rattle.std.proofs.Common.{◌≡◌, false, drop}
use Rattle.jpa_rows.specs.keys.Reading.{joined, unescaped}
use Rattle.jpa_rows.proofs.keys.read.read_escaped.Given as goal

abbrev pub invariant-loop-i : goal.invariant-loop-i
invariant-loop-i l = unescaped false l.bytes ≡ joined l.out.items l.i (unescaped l.after_zero (drop l.i l.bytes))
