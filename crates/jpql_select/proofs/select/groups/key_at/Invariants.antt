use Rattle.std.proofs.Common.{◌≡◌, ◌++◌, map, drop}
use Rattle.jpql_meaning.specs.eval.Seen.{seen}
use Rattle.jpql_select.specs.select.Selects.{group_key}
use Rattle.jpql_select.proofs.select.groups.key_at.Given as goal

-- what those before lead to, and those that are left
abbrev pub invariant-loop-one : goal.invariant-loop-one
invariant-loop-one l =
    group_key l.run l.paths l.tuple ≡ map seen l.found.items ++ group_key l.run (drop l.one-index l.paths) l.tuple
