use Rattle.std.proofs.Common.{◌≡◌, false, take}
use Rattle.jpa_stored.specs.ordered.Values.{lies_in_any}
use Rattle.jpa_stored.proofs.ordered.cut.lies_in_any.Given as goal

-- in none of those so far
abbrev pub invariant-loop-span : goal.invariant-loop-span
invariant-loop-span l = lies_in_any l.member (take l.span-index l.spans) l.entry ≡ false
