use Rattle.std.proofs.Common.{take}
use Rattle.std.specs.Prelude.{All}
use Rattle.jpql_select.specs.first.First.{GoesByTuple}
use Rattle.jpql_select.proofs.first.fit.are_paths.Given as goal

-- so it is of those before
abbrev pub invariant-loop-key : goal.invariant-loop-key
invariant-loop-key l = All GoesByTuple (take l.key-index l.keys)
