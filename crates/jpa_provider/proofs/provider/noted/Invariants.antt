use Rattle.std.proofs.Common.{◌≡◌, take}
use Rattle.jpa_provider.proofs.provider.noted.Given as goal

abbrev pub invariant-loop-number : goal.invariant-loop-number
invariant-loop-number l = l.noted.now ≡ take l.number-index l.numbers
