use Rattle.std.proofs.Common.{◌≡◌, ◌++◌, drop, map}
use Rattle.jpa_machine.specs.machine.Showing.{reached}
use Rattle.jpa_provider.proofs.showing.all_reached.Given as goal

-- what was told so far, and what is left
abbrev pub invariant-loop-held : goal.invariant-loop-held
invariant-loop-held l = l.list ++ map reached (drop l.held-index l.relations) ≡ map reached l.relations
