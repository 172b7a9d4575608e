-- DISTINCT and ORDER BY of rows, as the meaning of a SELECT has them.
use Rattle.std.specs.Prelude.{Bool, List, if◌then◌else◌}
use Rattle.jpql_trees.specs.declared.typed.typed.TypedKey.{TypedKey}
use Rattle.jpql_meaning.specs.declared.eval.datum.Datum.{Datum}
use Rattle.jpql_meaning.specs.eval.Aggregates.{once}
use Rattle.jpql_meaning.specs.plan.Laws.{is_same_row}
use Rattle.jpql_meaning.specs.plan.Selection.{Row, in_order}
use Rattle.jpql_select.specs.select.Tables.{items_in}

-- under DISTINCT the first of rows with the same items, else all rows (chapter 4.9)
abbrev pub distinct : Bool → List Row → List Row
distinct is_distinct rows = if is_distinct then once is_same_row rows else rows

-- the items of rows, distinct and then in order (chapter 4.10)
abbrev pub ordered : List TypedKey → Bool → List Row → List (List Datum)
ordered keys is_distinct rows = items_in (in_order keys (distinct is_distinct rows))
