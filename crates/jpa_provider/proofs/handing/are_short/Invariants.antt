use Rattle.std.proofs.Common.{◌≡◌, drop}
use Rattle.std.specs.List.{list_all}
use Rattle.jpa_machine.specs.machine.Calls.{is_short_given}
use Rattle.jpa_provider.proofs.handing.are_short.Given as goal

abbrev pub invariant-loop-part : goal.invariant-loop-part
invariant-loop-part l = list_all is_short_given (drop l.part-index l.given) ≡ list_all is_short_given l.given
