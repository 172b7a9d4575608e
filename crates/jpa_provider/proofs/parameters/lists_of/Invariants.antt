use Rattle.std.proofs.Common.{◌≡◌, ◌++◌, drop}
use Rattle.jpa_machine.specs.machine.Querying.{lists_of}
use Rattle.jpa_provider.proofs.parameters.lists_of.Given as goal

abbrev pub invariant-loop-parameter : goal.invariant-loop-parameter
invariant-loop-parameter l = l.lists ++ lists_of (drop l.parameter-index l.parameters) ≡ lists_of l.parameters
