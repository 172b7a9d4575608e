use Rattle.std.proofs.Common.{◌≡◌, true, take}
use Rattle.std.specs.List.{list_all}
use Rattle.jpa_machine.specs.machine.Invariant.{given_representable}
use Rattle.jpa_provider.proofs.handing.each_representable.Given as goal

abbrev pub invariant-loop-part : goal.invariant-loop-part
invariant-loop-part l = list_all given_representable (take l.part-index l.given) ≡ true
