use Rattle.std.proofs.Common.{sym, ap, ◌∙◌}
use Rattle.std.specs.List.{list_any}
use Rattle.jpa_opening.specs.migration.Plans.{touches}
use Rattle.jpa_opening.proofs.migration.Untouched.{stays}
use Rattle.jpa_opening.proofs.migration.row.moved.Goals as goal

pub returns-then-not-is_touched-clause-cells : goal.returns-then-not-is_touched-clause-cells
returns-then-not-is_touched-clause-cells c =
    sym (stays c.args.plan.now c.args.cells.items (ap (list_any (touches c.args.plan.now)) (sym c.as_slice.ensures.value) ∙ sym c.is_touched.ensures ∙ c.if-not-is_touched.true))
