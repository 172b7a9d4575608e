use Rattle.std.proofs.Common.{◌≡◌, ◌++◌, suc, drop, map}
use Rattle.jpa_provider.proofs.operating.numbers_of.Given as goal

-- the numbers so far, and those that are left
abbrev pub invariant-loop-place : goal.invariant-loop-place
invariant-loop-place l = l.numbers ++ map suc (drop l.place-index l.places) ≡ map suc l.places
