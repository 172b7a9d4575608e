use Rattle.std.proofs.Common.{◌≡◌, ◌++◌, map, drop}
use Rattle.jpql_meaning.specs.plan.Selection.{case_of}
use Rattle.jpql_select.specs.select.Cases.{case_in}
use Rattle.jpql_select.specs.select.Groups.{groups_in}
use Rattle.jpql_select.proofs.select.case.each_group.Given as goal

-- those before, and those that are left
abbrev pub invariant-loop-group : goal.invariant-loop-group
invariant-loop-group l =
    map case_of (groups_in l.all.groups.items) ≡ map case_in l.cases.items ++ map case_of (groups_in (drop l.group-index l.all.groups.items))
