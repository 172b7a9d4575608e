use Rattle.std.proofs.Common.{◌≡◌, take}
use Rattle.jpa_value.proofs.key.listed.Given as goal

abbrev pub invariant-loop-part : goal.invariant-loop-part
invariant-loop-part l = l.list.items ≡ take l.part-index l.parts
