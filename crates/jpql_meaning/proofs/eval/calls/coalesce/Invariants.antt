use Rattle.std.proofs.Common.{◌≡◌, drop, map}
use Rattle.jpql_meaning.specs.eval.Calls.{coalesce}
use Rattle.jpql_meaning.specs.eval.Seen.{seen}
use Rattle.jpql_meaning.proofs.eval.calls.coalesce.Given as goal

abbrev pub invariant-loop-one : goal.invariant-loop-one
invariant-loop-one l = coalesce (map seen l.all) ≡ coalesce (map seen (drop l.one-index l.all))
