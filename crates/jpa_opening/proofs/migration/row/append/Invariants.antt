use Rattle.std.proofs.Common.{◌≡◌, ◌++◌}
use Rattle.jpa_opening.proofs.migration.row.append.Given as goal

abbrev pub invariant-more : goal.invariant-more
invariant-more l = (l.cells.items ≡ l.fn.cells.items ++ l.yielded) × (l.fn.more.items ≡ l.yielded ++ l.cell-iterator.rest.items)
