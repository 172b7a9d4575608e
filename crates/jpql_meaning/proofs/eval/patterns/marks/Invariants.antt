use Rattle.std.proofs.Common.{◌≡◌, ◌++◌, length}
use Rattle.jpql_meaning.specs.eval.Texts as texts
use Rattle.jpql_meaning.proofs.eval.patterns.marks.Given as goal

abbrev pub invariant-loop-rest : goal.invariant-loop-rest
invariant-loop-rest l = texts.marks l.escape l.pattern ≡ l.marks.items ++ texts.marks l.escape l.rest

abbrev pub decreases-loop-rest : goal.decreases-loop-rest
decreases-loop-rest l = length l.rest
