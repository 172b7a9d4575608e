use Rattle.std.proofs.Common.{◌≡◌, true, take}
use Rattle.std.specs.List.{list_all}
use Rattle.jpa_behaviour.specs.Registered.{world_of}
use Rattle.jpa_description.specs.history.History.{changes_of}
use Rattle.jpa_opening.specs.migration.Migration.{default_passes, default_in}
use Rattle.jpa_opening.proofs.migration.defaults.class_passes.Given as goal

abbrev pub invariant-loop-i : goal.invariant-loop-i
invariant-loop-i g l =
    list_all (λ p. default_passes (world_of g.B.Behaviour.meaning l.metamodel l.registry) p.0 (default_in p.1)) (take l.i (changes_of l.metamodel l.history l.class)) ≡ true
