use Rattle.std.proofs.Common.{◌≡◌, drop, length}
use Rattle.jpa_machine.specs.machine.Querying.{bindings_in, values_of}
use Rattle.jpa_provider.proofs.Bound.{behind}
use Rattle.jpa_provider.proofs.parameters.bindings_in.Given as goal

-- those so far, before what the rest makes, are all
abbrev pub invariant-loop-parameter : goal.invariant-loop-parameter
invariant-loop-parameter l =
    let count = length l.work.objects.now in
    behind l.bindings (bindings_in count (values_of (drop l.parameter-index l.parameters))) ≡ bindings_in count (values_of l.parameters)
