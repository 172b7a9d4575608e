use Rattle.std.proofs.Common.{◌≡◌, drop}
use Rattle.jpql_meaning.specs.eval.Data.{same_data}
use Rattle.jpql_select.specs.select.Selects.{group_key}
use Rattle.jpql_select.proofs.select.groups.are_alike.Given as goal

-- those before are the same
abbrev pub invariant-loop-by : goal.invariant-loop-by
invariant-loop-by l =
    same_data (group_key l.run l.paths l.one) (group_key l.run l.paths l.other)
    ≡ same_data (group_key l.run (drop l.by-index l.paths) l.one) (group_key l.run (drop l.by-index l.paths) l.other)
