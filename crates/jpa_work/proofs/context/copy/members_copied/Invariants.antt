use Rattle.std.proofs.Common.{◌≡◌, take}
use Rattle.jpa_work.proofs.context.copy.members_copied.Given as goal

abbrev pub invariant-loop-known : goal.invariant-loop-known
invariant-loop-known l = l.copies ≡ take l.known-index l.members
