use Rattle.std.proofs.Common.{◌≡◌, drop}
use Rattle.jpa_machine.specs.machine.Showing.{all_shown}
use Rattle.jpa_provider.proofs.Own.{fronted}
use Rattle.jpa_provider.proofs.showing.all_shown.Given as goal

-- what is shown so far, and what is left
abbrev pub invariant-loop-number : goal.invariant-loop-number
invariant-loop-number l = fronted l.list (all_shown l.fn.metamodel l.fn.objects (drop l.number-index l.numbers)) ≡ all_shown l.fn.metamodel l.fn.objects l.numbers
