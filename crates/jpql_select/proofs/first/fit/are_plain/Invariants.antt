use Rattle.std.proofs.Common.{take}
use Rattle.std.specs.Prelude.{All}
use Rattle.jpql_run.specs.Keys.{NeverOverflows}
use Rattle.jpql_select.proofs.first.fit.are_plain.Given as goal

-- so it is of those before
abbrev pub invariant-loop-item : goal.invariant-loop-item
invariant-loop-item l = All NeverOverflows (take l.item-index l.items)
