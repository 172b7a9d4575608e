use Rattle.std.proofs.Common.{◌≡◌, take}
use Rattle.std.specs.List.{flat_map}
use Rattle.jpa_opening.specs.migration.Plans.{defaults_if}
use Rattle.jpa_opening.proofs.migration.row.defaults_by.Given as goal

abbrev pub invariant-loop-class : goal.invariant-loop-class
invariant-loop-class l = l.defaults.items ≡ flat_map (defaults_if l.cells) (take l.class-index l.class-items)
