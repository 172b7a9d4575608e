use Rattle.std.proofs.Common.{◌≡◌, map}
use Rattle.std.specs.List.{range_with_len}
use Rattle.jpa_model.specs.Drafted.{chain}
use Rattle.jpa_description.proofs.description.chains.chains_of.Given as goal

abbrev pub invariant-loop-class : goal.invariant-loop-class
invariant-loop-class l = l.chains ≡ map (chain l.draft) (range_with_len 0 l.class)
