use Rattle.std.proofs.Common.{◌≡◌, ◌++◌, drop, map}
use Rattle.jpql_meaning.specs.eval.Seen.{seen}
use Rattle.jpql_select.proofs.select.own.row_of.Given as goal

-- the items so far, and those that are left
abbrev pub invariant-loop-item : goal.invariant-loop-item
invariant-loop-item l = l.row.items ++ map seen (drop l.item-index l.item-items) ≡ map seen l.fn.items.items
