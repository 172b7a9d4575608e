use Rattle.jpql_meaning.proofs.eval.Fronts.{IsGone}
use Rattle.jpql_meaning.proofs.eval.patterns.front_of.Given as goal

abbrev pub invariant-loop-i : goal.invariant-loop-i
invariant-loop-i l = IsGone l.marks l.text l.i
