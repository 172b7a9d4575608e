use Rattle.std.proofs.Common.{◌≡◌, drop, map}
use Rattle.jpql_meaning.specs.eval.Data.{compared}
use Rattle.jpql_meaning.specs.eval.Seen.{seen}
use Rattle.jpql_meaning.specs.eval.Truths.{and3, all3}
use Rattle.jpql_meaning.proofs.eval.against.with_all.Given as goal

abbrev pub invariant-loop-row : goal.invariant-loop-row
invariant-loop-row l =
    all3 (map (compared l.comparison (seen l.value)) (map seen l.rows))
    ≡ and3 l.truth (all3 (map (compared l.comparison (seen l.value)) (map seen (drop l.row-index l.rows))))
