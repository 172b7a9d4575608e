use Rattle.std.proofs.Common.{◌≡◌, ◌++◌, map}
use Rattle.std.specs.List.{AllByRecursion, flat_map}
use Rattle.jpa_opening.specs.migration.Orderly.{IsOrderly}
use Rattle.jpa_opening.specs.migration.Plans.{row_by, change_by}
use Rattle.jpa_opening.proofs.migration.table.rows_by.Given as goal

abbrev pub invariant-rows : goal.invariant-rows
invariant-rows l = record {
  rows : AllByRecursion (λ r. IsOrderly l.plan r.cells) l.yielded → l.after.items ≡ map (row_by l.plan) l.yielded;
  changes : AllByRecursion (λ r. IsOrderly l.plan r.cells) l.yielded → l.changes ≡ l.fn.changes ++ flat_map (change_by l.plan l.table) l.yielded;
  all : l.fn.rows.items ≡ l.yielded ++ l.stored-iterator.rest.items;
}
