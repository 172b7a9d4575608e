-- What the parts of a SELECT mean, over what it is run over.
use Rattle.std.specs.Prelude.{Bool, true, false, List, [], map, slice_index_or}
use Rattle.jpa_open.specs.Opened.{now}
use Rattle.jpql_trees.specs.declared.typed.path.TypedPath.{TypedPath}
use Rattle.jpql_trees.specs.declared.typed.typed.TypedKey.{TypedKey}
use Rattle.jpql_trees.specs.declared.typed.typed.TypedSelect.{TypedSelect}
use Rattle.jpql_trees.specs.declared.typed.typed.TypedSorted.{TypedSorted}
use Rattle.jpql_meaning.specs.declared.eval.datum.Datum.{Datum}
use Rattle.jpql_meaning.specs.eval.Answers.{Answer}
use Rattle.jpql_meaning.specs.eval.Data.{null}
use Rattle.jpql_meaning.specs.plan.Meaning.{Case}
use Rattle.jpql_meaning.specs.plan.Paths as paths
use Rattle.jpql_meaning.specs.plan.Paths.{Tuple}
use Rattle.jpql_meaning.specs.plan.Selection as selection
use Rattle.jpql_meaning.specs.plan.Selection.{Row}
use Rattle.jpql_run.specs.declared.run.Run.{Run}

-- whether a path of a tuple has a null step before its last
abbrev pub is_broken : Run → Tuple → TypedPath → Bool
is_broken run t p = paths.is_broken run.metamodel.now (now run.set.now) t p

-- whether a key of ORDER BY has a null step in its path
abbrev pub key_breaks : Run → Tuple → TypedKey → Bool
key_breaks run t k = selection.key_breaks run.metamodel.now (now run.set.now) run.parameters.now t k

-- whether some path of the statement has a null step for a tuple
abbrev pub drops : Run → TypedSelect → Tuple → Bool
drops run q t = selection.select_drops run.metamodel.now (now run.set.now) run.parameters.now q t

-- the tuples of a SELECT
abbrev pub tuples : Run → TypedSelect → Answer (List Tuple)
tuples run q = selection.selected_tuples run.metamodel.now (now run.set.now) run.parameters.now q

-- what a tuple is grouped by
abbrev pub group_key : Run → List TypedPath → Tuple → List Datum
group_key run ps t = selection.group_key run.metamodel.now (now run.set.now) run.parameters.now ps t

-- the groups of tuples
abbrev pub groups_of : Run → List TypedPath → List Tuple → List Case
groups_of run ps ts = selection.groups_of run.metamodel.now (now run.set.now) run.parameters.now ps ts

-- what rows are made for: groups where the SELECT makes groups, else tuples
abbrev pub cases_of : Run → TypedSelect → List Tuple → List Case
cases_of run q ts = selection.cases_of run.metamodel.now (now run.set.now) run.parameters.now q ts

-- what a key of ORDER BY is
abbrev pub key_datum : Run → List Datum → Case → TypedKey → Answer Datum
key_datum run items at k = selection.key_datum run.metamodel.now (now run.set.now) run.parameters.now items at k

-- whether a key of ORDER BY is a value, which may overflow; an item or a path can't
abbrev pub is_by_value : TypedKey → Bool
is_by_value key = by key.by
  where
    by : TypedSorted → Bool
    by (TypedSorted.Item n) = false
    by (TypedSorted.Path p) = false
    by (TypedSorted.Value v) = true

-- what a key of ORDER BY is that is no value; of a value it is null
abbrev pub key_given : Run → List Datum → Case → TypedKey → Datum
key_given run items at key = by key.by
  where
    by : TypedSorted → Datum
    by (TypedSorted.Item n) = slice_index_or items n null
    by (TypedSorted.Path p) = paths.path_datum run.metamodel.now (now run.set.now) at.tuple p
    by (TypedSorted.Value v) = null

-- a row, with what it is ordered by
abbrev pub row_of : Run → TypedSelect → Case → Answer Row
row_of run q at = selection.row_of run.metamodel.now (now run.set.now) run.parameters.now q at

-- the rows of what HAVING is true of
abbrev pub rows_of : Run → TypedSelect → List Case → Answer (List Row)
rows_of run q cases = selection.rows_of run.metamodel.now (now run.set.now) run.parameters.now q cases

-- the rows of groups of tuples, before DISTINCT and ORDER BY
abbrev pub rows_of_groups : Run → TypedSelect → List Tuple → Answer (List Row)
rows_of_groups run q ts = rows_of run q (map selection.case_of (selection.put_tuples (group_key run q.groups) [] ts))
