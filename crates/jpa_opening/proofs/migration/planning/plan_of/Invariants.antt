use Rattle.std.proofs.Common.{◌≡◌, ◌==◌}
use Rattle.std.specs.Prelude.{filter}
use Rattle.std.specs.List.{range_with_len}
use Rattle.jpa_model.specs.Chains.{root_class}
use Rattle.jpa_behaviour.specs.Registered.{world_of}
use Rattle.jpa_opening.specs.migration.Plans.{plan_of_classes}
use Rattle.jpa_opening.proofs.migration.planning.plan_of.Given as goal

abbrev pub invariant-loop-class : goal.invariant-loop-class
invariant-loop-class g l =
    l.plan ≡ plan_of_classes (world_of g.B.Behaviour.meaning l.metamodel l.registry) l.history l.root (filter (λ c. root_class l.metamodel c == l.root) (range_with_len 0 l.class))
