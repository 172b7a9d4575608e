use Rattle.std.proofs.Common.{◌≡◌, drop, map}
use Rattle.jpql_meaning.specs.eval.Aggregates.{best, best_of}
use Rattle.jpql_meaning.specs.eval.Seen.{seen}
use Rattle.jpql_meaning.proofs.eval.aggregates.best.Given as goal

abbrev pub invariant-loop-one : goal.invariant-loop-one
invariant-loop-one l = best l.comparison (map seen l.all) ≡ best_of l.comparison (seen l.best) (map seen (drop l.one-index l.others))
