use Rattle.std.proofs.Common.{◌≡◌, ◌<◌, length}
use Rattle.std.specs.Prelude.{filter, ◌==◌, All}
use Rattle.std.specs.List.{range_with_len}
use Rattle.jpa_model.specs.Chains.{root_class}
use Rattle.jpa_description.proofs.history.apart.hierarchy_of.Given as goal

abbrev pub invariant-loop-class : goal.invariant-loop-class
invariant-loop-class l = record {
  found : l.places ≡ filter (λ class. root_class l.metamodel class == l.root) (range_with_len 0 l.class);
  within : All (λ class. class < length l.metamodel.entities) l.places;
}
