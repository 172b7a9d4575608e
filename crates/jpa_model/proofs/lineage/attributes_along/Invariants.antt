use Rattle.std.proofs.Common.{◌≡◌, ◌++◌, drop}
use Rattle.std.specs.List.{flat_map}
use Rattle.jpa_model.specs.Chains.{entity_at}
use Rattle.jpa_model.proofs.lineage.attributes_along.Given as goal

abbrev pub invariant-loop-class : goal.invariant-loop-class
invariant-loop-class l =
    l.found ++ flat_map (λ c. (entity_at l.unit c).attributes) (drop l.class-index l.chain) ≡ flat_map (λ c. (entity_at l.unit c).attributes) l.chain
