use Rattle.std.proofs.Common.{◌≡◌, drop}
use Rattle.std.specs.List.{list_any}
use Rattle.jpa_model.specs.Chains.{entity_at}
use Rattle.jpa_lifecycle.proofs.hearing.excludes_default.Given as goal

abbrev pub invariant-loop-class : goal.invariant-loop-class
invariant-loop-class l = list_any (λ c. (entity_at l.metamodel c).exclude_default) (drop l.class-index l.classes) ≡ list_any (λ c. (entity_at l.metamodel c).exclude_default) l.classes
