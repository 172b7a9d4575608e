use Rattle.std.proofs.Common.{◌≡◌, drop, map}
use Rattle.std.specs.List.{list_any}
use Rattle.jpql_meaning.specs.eval.Data.{same_datum}
use Rattle.jpql_meaning.specs.eval.Seen.{seen}
use Rattle.jpql_run.proofs.row_index.any_same.Given as goal

-- none of those before
abbrev pub invariant-loop-row : goal.invariant-loop-row
invariant-loop-row l = list_any (same_datum (seen l.value)) (map seen l.rows) ≡ list_any (same_datum (seen l.value)) (map seen (drop l.row-index l.rows))
