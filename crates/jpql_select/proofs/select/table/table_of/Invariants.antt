use Rattle.std.proofs.Common.{◌≡◌, ◌++◌, drop, length}
use Rattle.jpql_select.specs.select.Tables.{rows_in, items_in}
use Rattle.jpql_select.proofs.select.table.table_of.Given as goal

abbrev pub invariant-loop-row : goal.invariant-loop-row
invariant-loop-row l =
    items_in l.fn.rows.items ≡ rows_in l.table ++ items_in (drop (length l.yielded) l.fn.rows.items)
