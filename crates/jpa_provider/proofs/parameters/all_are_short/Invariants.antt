use Rattle.std.proofs.Common.{◌≡◌, drop}
use Rattle.jpa_machine.specs.machine.Querying.{are_short}
use Rattle.jpa_provider.proofs.parameters.all_are_short.Given as goal

abbrev pub invariant-loop-parameter : goal.invariant-loop-parameter
invariant-loop-parameter l = are_short (drop l.parameter-index l.parameters) ≡ are_short l.parameters
