use Rattle.std.proofs.Common.{◌≡◌, drop}
use Rattle.jpa_opening.specs.migration.Plans.{column_by}
use Rattle.jpa_opening.proofs.migration.row.column_by.Given as goal

abbrev pub invariant-loop-step : goal.invariant-loop-step
invariant-loop-step l = column_by (drop l.step-index l.moves) l.column ≡ column_by l.moves l.column
