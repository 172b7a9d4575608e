use Rattle.std.proofs.Common.{◌≡◌, ◌++◌, drop}
use Rattle.jpa_provider.proofs.showing.add_copies.Given as goal

-- the copies so far, and those that are left
abbrev pub invariant-loop-value : goal.invariant-loop-value
invariant-loop-value l = l.list ++ drop l.value-index l.values ≡ l.fn.list ++ l.values
