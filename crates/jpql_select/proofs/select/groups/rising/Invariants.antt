use Rattle.std.proofs.Common.{◌≡◌, ◌≤◌, ◌-◌, [], map, drop, length}
use Rattle.jpql_meaning.specs.plan.Selection.{case_of, put_tuples}
use Rattle.jpql_select.specs.select.Cases.{case_in}
use Rattle.jpql_select.specs.select.Selects.{group_key}
use Rattle.jpql_select.proofs.select.Rising.{AreRisen, groups_of}
use Rattle.jpql_select.proofs.select.groups.rising.Given as goal

-- the groups of those before, to which those that are left are put
abbrev pub invariant-loop-place : goal.invariant-loop-place
invariant-loop-place l =
    let key = group_key l.run l.paths in
    record {
      within : l.place ≤ length l.tuples;
      risen : AreRisen key (put_tuples key [] l.tuples) (groups_of l.cases.items) l.before (drop l.place l.tuples);
      cases : map case_in l.cases.items ≡ map case_of (groups_of l.cases.items);
    }

abbrev pub decreases-loop-place : goal.decreases-loop-place
decreases-loop-place l = length l.tuples - l.place
