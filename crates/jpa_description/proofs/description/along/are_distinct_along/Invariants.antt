use Rattle.std.proofs.Common.{◌≡◌, drop}
use Rattle.std.specs.List.{list_all}
use Rattle.jpa_model.specs.WellFormed.{is_distinct_along}
use Rattle.jpa_description.proofs.description.along.are_distinct_along.Given as goal

abbrev pub invariant-loop-chain : goal.invariant-loop-chain
invariant-loop-chain l = list_all (is_distinct_along l.draft) (drop l.chain-index l.chains) ≡ list_all (is_distinct_along l.draft) l.chains
