use Rattle.std.proofs.Common.{◌≡◌, true}
use Rattle.std.specs.List.{list_all, range_with_len}
use Rattle.jpa_behaviour.specs.Registered.{world_of}
use Rattle.jpa_opening.specs.migration.Changed.{class_passes}
use Rattle.jpa_opening.proofs.migration.defaults.defaults_pass.Given as goal

abbrev pub invariant-loop-class : goal.invariant-loop-class
invariant-loop-class g l = list_all (class_passes (world_of g.B.Behaviour.meaning l.metamodel l.registry) l.history) (range_with_len 0 l.class) ≡ true
