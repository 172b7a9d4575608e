use Rattle.std.proofs.Common.{◌≡◌, ◌++◌, ℕ, drop, length, map}
use Rattle.std.specs.Prelude.{nat_eq}
use Rattle.std.specs.List.{filter}
use Rattle.indexmap.specs.IndexMap.{get}
use Rattle.jpql_meaning.specs.eval.Seen.{seen}
use Rattle.jpql_run.specs.Ready.{is_printed_as, rows_under}
use Rattle.jpql_run.proofs.row_index.by_print.Given as goal

-- the rows before, and those that are left
abbrev pub invariant-loop-row : goal.invariant-loop-row
invariant-loop-row l =
    (p : ℕ) → filter (is_printed_as p) (map seen l.fn.rows.items)
    ≡ rows_under (get nat_eq l.under p) ++ filter (is_printed_as p) (map seen (drop (length l.yielded) l.fn.rows.items))
