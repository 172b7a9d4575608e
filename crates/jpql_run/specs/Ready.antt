-- WHERE as it is asked of many tuples: rows of a nested block that names none of their variables are
-- computed once, and asked for each tuple (chapters 4.6.9, 4.6.15 and 4.6.16).
use Rattle.std.specs.Prelude.{◌≡◌, ℕ, Bool, true, false, nat_eq, List, [], ◌∷◌, map, length, Option, Some, None}
use Rattle.std.specs.Prelude.{if◌then◌else◌, Result, Ok, Err}
use Rattle.std.specs.List.{list_any}
use Rattle.std.specs.Global.{Vec}
use Rattle.std.specs.Ordering.{is_le}
use Rattle.indexmap.specs.IndexMap.{get}
use Rattle.jpql_trees.specs.declared.tree.Against.{Against}
use Rattle.jpql_trees.specs.declared.tree.Comparison.{Comparison}
use Rattle.jpql_trees.specs.declared.typed.typed.TypedCondition.{TypedCondition}
use Rattle.jpql_meaning.specs.declared.eval.datum.Datum.{Datum}
use Rattle.jpql_meaning.specs.declared.eval.datum.Truth.{Truth}
use Rattle.jpql_meaning.specs.declared.eval.failure.Failure.{Failure}
use Rattle.jpql_meaning.specs.declared.eval.seen.Seen.{Seen}
use Rattle.jpql_meaning.specs.eval.Answers.{Answer, gives, under, both}
use Rattle.jpql_meaning.specs.eval.Data.{null, is_nothing, same_datum, datum_cmp, compared}
use Rattle.jpql_meaning.specs.eval.Finds.{Fails}
use Rattle.jpql_meaning.specs.eval.Judged.{judged}
use Rattle.jpql_meaning.specs.eval.Seen.{seen}
use Rattle.jpql_meaning.specs.eval.Truths.{not3, and3, or3, any3, all3}
use Rattle.jpql_meaning.specs.plan.Meaning.{alone}
use Rattle.jpql_meaning.specs.plan.Paths.{Tuple}
use Rattle.jpql_run.specs.ByValue.{print}
use Rattle.jpql_run.specs.Runs.{truth, value_alone}
use Rattle.jpql_run.specs.declared.ready.Ready.{Ready, Ready-F, fold-Ready}
use Rattle.jpql_run.specs.declared.ready.Ready.TheOpen as is
use Rattle.jpql_run.specs.declared.row_index.RowIndex.{RowIndex}
use Rattle.jpql_run.specs.declared.run.Run.{Run}
use Rattle.jpql_run.specs.declared.rows_told.Told.{Told}

-- ---- rows by what is printed of them

-- whether a row is printed so
abbrev pub is_printed_as : ℕ → Datum → Bool
is_printed_as p row = nat_eq p (print row)

-- the rows of an index under a print
abbrev pub rows_under : Option (Vec Seen) → List Datum
rows_under None = []
rows_under (Some found) = map seen found.items

-- whether an index has a row that is the same
abbrev pub has_row : RowIndex → Datum → Bool
has_row index x = list_any (same_datum x) (rows_under (get nat_eq index.under (print x)))

-- whether a value is one of the rows: null is unknown where there is a row, and beside a null all is
-- that is no other one (chapter 4.6.9)
abbrev pub among_rows : RowIndex → Datum → Truth
among_rows index x =
    if is_nothing x then (if index.is_any then Truth.Unknown else Truth.No)
    else if has_row index x then Truth.Yes
    else if index.has_null then Truth.Unknown
    else Truth.No

-- ---- of rows those that decide a comparison by their order with all of them

-- whether a comparison goes by the order of values
abbrev pub is_ordered : Comparison → Bool
is_ordered Comparison.Equal = false
is_ordered Comparison.Different = false
is_ordered op = true

-- the comparison that holds where this one doesn't
abbrev pub opposite : Comparison → Comparison
opposite Comparison.Equal = Comparison.Different
opposite Comparison.Different = Comparison.Equal
opposite Comparison.Less = Comparison.AtLeast
opposite Comparison.AtMost = Comparison.Greater
opposite Comparison.Greater = Comparison.AtMost
opposite Comparison.AtLeast = Comparison.Less

-- whether each value that compares so with one row compares so with another: what is less than one is
-- less than what the one is at most
abbrev pub reaches : Comparison → Datum → Datum → Bool
reaches Comparison.Less a b = is_le (datum_cmp a b)
reaches Comparison.AtMost a b = is_le (datum_cmp a b)
reaches Comparison.Greater a b = is_le (datum_cmp b a)
reaches Comparison.AtLeast a b = is_le (datum_cmp b a)
reaches _ a b = false

-- the harder one to meet of two rows, or the one that there is
abbrev pub harder : Comparison → Option Datum → Datum → Datum
harder op None row = row
harder op (Some was) row = if reaches op was row then was else row

-- null, where there is one
abbrev pub nulls : Bool → List Datum
nulls true = null ∷ []
nulls false = []

-- a row, where there is one, and null, where there is one
abbrev pub few : Option Datum → Bool → List Datum
few None has_null = nulls has_null
few (Some row) has_null = row ∷ nulls has_null

-- ---- what was told of rows

-- whether a comparison holds between a value and what was told of rows
abbrev pub asked : Told → Comparison → Datum → Truth
asked (Told.Among index) op x = among_rows index x
asked (Told.Outside index) op x = not3 (among_rows index x)
asked (Told.Any rows) op x = any3 (map (compared op x) (map seen rows.items))
asked (Told.All rows) op x = all3 (map (compared op x) (map seen rows.items))
asked (Told.One one) op x = compared op x (seen one)

-- what is told judges each value as the rows do; Overflow, as the rows do for each
abbrev pub IsTold : Against → Comparison → List Datum → Result Told Failure → Type 0
IsTold against op rows (Ok told) = (x : Datum) → judged against op x rows ≡ gives (asked told op x)
IsTold against op rows (Err e) = (x : Datum) → Fails e (judged against op x rows)

-- ---- conditions made ready

-- whether a condition holds for a tuple, from whether its parts do (chapter 4.6)
abbrev pub ready_step : Run → Ready-F (Tuple → Answer Truth) → Tuple → Answer Truth
ready_step run (is.Or a b) t = both or3 (a t) (b t)
ready_step run (is.And a b) t = both and3 (a t) (b t)
ready_step run (is.Not a) t = under not3 (a t)
ready_step run (is.Beside op v told) t = under (asked told op) (value_alone run v.now t)
ready_step run (is.Plain c) t = truth run c.now (alone t)

-- whether what was made ready holds for a tuple
abbrev pub ready_truth : Run → Ready → Tuple → Answer Truth
ready_truth run = fold-Ready (Tuple → Answer Truth) (ready_step run)

-- for each tuple of so many variables it says whether the condition holds
abbrev pub Tells : Run → TypedCondition → ℕ → Ready → Type 0
Tells run c n ready = (t : Tuple) → length t ≡ n → ready_truth run ready t ≡ truth run c (alone t)

-- a condition is made ready at a tuple for those of as many variables; where a part overflows, the
-- condition does for this one
abbrev pub IsReadied : Run → TypedCondition → Tuple → Result Ready Failure → Type 0
IsReadied run c t (Ok ready) = Tells run c (length t) ready
IsReadied run c t (Err e) = Fails e (truth run c (alone t))
