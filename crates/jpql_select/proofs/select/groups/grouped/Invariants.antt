use Rattle.std.proofs.Common.{◌≡◌, List, [], true, drop, length}
use Rattle.std.specs.BTreeMap.{get}
use Rattle.jpql_meaning.specs.declared.eval.datum.Datum.{Datum}
use Rattle.jpql_meaning.specs.plan.Selection.{put_tuples}
use Rattle.jpql_select.specs.select.Keys.{data_cmp}
use Rattle.jpql_select.specs.select.Groups.{groups_in, place_of, all_some, AreApart}
use Rattle.jpql_select.specs.select.Selects.{group_key}
use Rattle.jpql_select.proofs.select.groups.grouped.Given as goal

-- the groups of those before, to which those that are left are put, and where the groups stand
abbrev pub invariant-loop-tuple : goal.invariant-loop-tuple
invariant-loop-tuple l =
    let key = group_key l.run l.paths in
    record {
      groups : put_tuples key [] l.fn.tuples.items ≡ put_tuples key (groups_in l.groups.items) (drop (length l.yielded) l.fn.tuples.items);
      some : all_some (groups_in l.groups.items) ≡ true;
      apart : AreApart key (groups_in l.groups.items);
      places : (k : List Datum) → get data_cmp l.places k ≡ place_of key k (groups_in l.groups.items);
    }
