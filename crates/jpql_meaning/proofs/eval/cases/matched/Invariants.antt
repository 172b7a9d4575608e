use Rattle.std.proofs.Common.{◌≡◌, length, map}
use Rattle.jpql_meaning.specs.eval.Cases.{matched}
use Rattle.jpql_meaning.specs.eval.Seen.{seen}
use Rattle.jpql_meaning.proofs.eval.cases.matched.Given as goal

abbrev pub invariant-loop-rest : goal.invariant-loop-rest
invariant-loop-rest l = matched (seen l.value) (map seen l.all) ≡ matched (seen l.value) (map seen l.rest)

abbrev pub decreases-loop-rest : goal.decreases-loop-rest
decreases-loop-rest l = length l.rest
