-- When the columns of what a plan makes of cells are apart.
use Rattle.std.specs.Prelude.{◌≡◌, false, List}
use Rattle.std.specs.declared.cmp.Ordering.TheVariants.{Less}
use Rattle.sqlite.specs.Tree.{IsAscending}
use Rattle.jpa_cells.specs.declared.meaning.Cell.{Cell}
use Rattle.jpa_cells.specs.meaning.Tables.{cell_cmp, ColumnsDiffer}
use Rattle.jpa_opening.specs.declared.migration.plan.Plan.{Plan}
use Rattle.jpa_opening.specs.migration.Plans.{is_taken, loose_by}

-- the cells rise, and unless one is where none can be, no two of those that come of them have one
-- column
pub record IsOrderly (plan : Plan) (cells : List Cell) : Type 0 where
  pub rise : IsAscending (λ (a b : Cell). cell_cmp a b ≡ Less) cells
  pub apart : is_taken plan cells ≡ false → ColumnsDiffer (loose_by plan cells)
