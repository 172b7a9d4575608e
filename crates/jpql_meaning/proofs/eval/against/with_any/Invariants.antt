use Rattle.std.proofs.Common.{◌≡◌, drop, map}
use Rattle.jpql_meaning.specs.eval.Data.{compared}
use Rattle.jpql_meaning.specs.eval.Seen.{seen}
use Rattle.jpql_meaning.specs.eval.Truths.{or3, any3}
use Rattle.jpql_meaning.proofs.eval.against.with_any.Given as goal

abbrev pub invariant-loop-row : goal.invariant-loop-row
invariant-loop-row l =
    any3 (map (compared l.comparison (seen l.value)) (map seen l.rows))
    ≡ or3 l.truth (any3 (map (compared l.comparison (seen l.value)) (map seen (drop l.row-index l.rows))))
