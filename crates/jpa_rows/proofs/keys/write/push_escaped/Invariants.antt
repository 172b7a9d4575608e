use Rattle.std.proofs.Common.{◌≡◌, ◌++◌, take}
use Rattle.jpa_rows.specs.keys.Keys as keys
use Rattle.jpa_rows.proofs.keys.write.push_escaped.Given as goal

abbrev pub invariant-loop-byte : goal.invariant-loop-byte
invariant-loop-byte l = l.out.items ≡ l.fn.out.items ++ keys.escaped (take l.byte-index l.bytes)
