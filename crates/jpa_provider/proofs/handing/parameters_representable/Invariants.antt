use Rattle.std.proofs.Common.{◌≡◌, true, take}
use Rattle.std.specs.List.{list_all}
use Rattle.jpa_protocol.specs.declared.call.Parameter.{Parameter}
use Rattle.jpa_machine.specs.machine.Invariant.{value_representable}
use Rattle.jpa_provider.proofs.handing.parameters_representable.Given as goal

abbrev pub invariant-loop-parameter : goal.invariant-loop-parameter
invariant-loop-parameter l = list_all (λ (p : Parameter). value_representable p.value) (take l.parameter-index l.parameters) ≡ true
