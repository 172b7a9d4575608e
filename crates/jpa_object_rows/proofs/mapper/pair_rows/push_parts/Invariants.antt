use Rattle.std.proofs.Common.{◌≡◌, ◌++◌, take}
use Rattle.jpa_object_rows.proofs.mapper.pair_rows.push_parts.Given as goal

abbrev pub invariant-loop-part : goal.invariant-loop-part
invariant-loop-part l = l.key ≡ l.fn.key ++ take l.part-index l.parts
