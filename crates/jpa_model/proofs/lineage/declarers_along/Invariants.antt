use Rattle.std.proofs.Common.{◌≡◌, ◌++◌, map, drop}
use Rattle.std.specs.List.{flat_map}
use Rattle.jpa_model.specs.Chains.{entity_at}
use Rattle.jpa_model.proofs.lineage.declarers_along.Given as goal

abbrev pub invariant-loop-class : goal.invariant-loop-class
invariant-loop-class l =
    l.found ++ flat_map (λ c. map (λ r. c) (entity_at l.unit c).relations) (drop l.class-index l.chain)
    ≡ flat_map (λ c. map (λ r. c) (entity_at l.unit c).relations) l.chain
