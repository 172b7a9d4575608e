use Rattle.std.proofs.Common.{◌≡◌, ◌++◌, drop, map}
use Rattle.jpa_operations.specs.fetch.Load.{held_from}
use Rattle.jpa_operations.proofs.fetch.loading.held_loaded.Given as goal

abbrev pub invariant-loop-known : goal.invariant-loop-known
invariant-loop-known l = l.held ++ map held_from (drop l.known-index l.members) ≡ map held_from l.members
