use Rattle.std.proofs.Common.{◌≡◌, ◌++◌, drop, length, map}
use Rattle.jpql_meaning.specs.eval.Seen.{seen}
use Rattle.jpql_select.specs.select.Tables.{rows_in}
use Rattle.jpql_select.proofs.select.own.rows_of.Given as goal

-- the rows so far, and those that are left
abbrev pub invariant-loop-row : goal.invariant-loop-row
invariant-loop-row l = rows_in l.fn.table ≡ l.rows.items ++ map (λ row. map seen row.items) (drop (length l.yielded) l.fn.table.items)
