use Rattle.std.proofs.Common.{◌≡◌, take, map}
use Rattle.jpql_meaning.specs.eval.Seen.{seen}
use Rattle.jpql_select.proofs.select.key.key_of.Given as goal

abbrev pub invariant-loop-datum : goal.invariant-loop-datum
invariant-loop-datum l = map seen l.copies.items ≡ map seen (take l.datum-index l.data)
