use Rattle.std.proofs.Common.{◌≡◌, ◌+◌, drop}
use Rattle.jpql_meaning.specs.eval.Texts as texts
use Rattle.jpql_meaning.proofs.eval.texts.found_from.Given as goal

abbrev pub invariant-loop-at : goal.invariant-loop-at
invariant-loop-at l = texts.found_from 1 l.from l.sought l.text ≡ texts.found_from (l.at + 1) l.from l.sought (drop l.at l.text)
