use Rattle.std.proofs.Common.{◌≡◌}
use Rattle.jpql_meaning.proofs.eval.texts.characters.Given as goal

-- those so far
abbrev pub invariant-loop-c : goal.invariant-loop-c
invariant-loop-c l = l.all.items ≡ l.yielded
