-- What a SELECT gives: groups, HAVING, rows, DISTINCT and ORDER BY (chapters 4.8 to 4.10). The cut
-- is the caller's.
use Rattle.std.specs.Prelude.{Bool, true, false, ◌||◌, List, [], ◌∷◌, ◌++◌, map, slice_index_or, is_some, option_map}
use Rattle.std.specs.Prelude.{if◌then◌else◌}
use Rattle.std.specs.List.{list_any}
use Rattle.std.specs.Ordering.{is_lt, ordering_then}
use Rattle.std.specs.declared.cmp.Ordering.{Ordering}
use Rattle.std.specs.declared.cmp.Ordering.TheVariants.{Equal}
use Rattle.jpa_model.specs.declared.unit.PersistenceUnit.{PersistenceUnit}
use Rattle.jpa_stored.specs.objects.Sets.{StoredSet}
use Rattle.jpql_trees.specs.declared.typed.path.TypedPath.{TypedPath}
use Rattle.jpql_trees.specs.declared.typed.typed.TypedValue.{TypedValue, TypedValue-F, fold-TypedValue}
use Rattle.jpql_trees.specs.declared.typed.typed.TypedValue.TheOpen as part
use Rattle.jpql_trees.specs.declared.typed.typed.TypedSorted.{TypedSorted}
use Rattle.jpql_trees.specs.declared.typed.typed.TypedKey.{TypedKey}
use Rattle.jpql_trees.specs.declared.typed.typed.TypedSelect.{TypedSelect}
use Rattle.jpql_meaning.specs.declared.eval.datum.Datum.{Datum}
use Rattle.jpql_meaning.specs.eval.Answers.{Answer, gives, ◌>>=◌, under, every}
use Rattle.jpql_meaning.specs.eval.Data.{null, same_data, datum_cmp}
use Rattle.jpql_meaning.specs.eval.Aggregates.{once}
use Rattle.jpql_meaning.specs.plan.Paths.{Tuple, path_datum, is_broken}
use Rattle.jpql_meaning.specs.plan.Meaning.{Case, alone, is_any, kept, drops_any, truth_of_any, tuples_where, value}
use Rattle.jpql_meaning.specs.plan.Meaning.{value_drops, condition, source}

-- ---- groups

-- whether an aggregate stands in a value, from whether one stands in its parts
abbrev pub has_aggregate_step : TypedValue-F Bool → Bool
has_aggregate_step (part.Integer n) = false
has_aggregate_step (part.Text t) = false
has_aggregate_step (part.Parameter place) = false
has_aggregate_step (part.Path p) = false
has_aggregate_step (part.Signed s a) = a
has_aggregate_step (part.Arithmetic op a b) = a || b
has_aggregate_step (part.Call f all) = list_any (λ a. a) all
has_aggregate_step (part.Size p) = false
has_aggregate_step (part.Aggregate g distinct a) = true

-- whether an aggregate stands in a value (chapter 4.9.5)
abbrev pub has_aggregate : TypedValue → Bool
has_aggregate = fold-TypedValue Bool has_aggregate_step

-- whether an aggregate stands in what ORDER BY sorts by (chapter 4.10)
abbrev pub sorts_by_aggregate : TypedSorted → Bool
sorts_by_aggregate (TypedSorted.Item n) = false
sorts_by_aggregate (TypedSorted.Path p) = false
sorts_by_aggregate (TypedSorted.Value v) = has_aggregate v

-- whether a SELECT makes groups: by GROUP BY, HAVING or an aggregate in an item or a key (chapter 4.8)
abbrev pub is_grouping : TypedSelect → Bool
is_grouping q = is_any q.groups || is_some q.having || list_any has_aggregate q.items
    || list_any (λ key. sorts_by_aggregate key.by) q.order

-- a group of tuples, with its first
abbrev pub case_of : List Tuple → Case
case_of [] = alone []
case_of (t ∷ ts) = record { tuple = t; group = t ∷ ts }

-- a tuple put to the group of its key; groups stand in the order of their first tuples
abbrev pub put_tuple : (Tuple → List Datum) → Tuple → List (List Tuple) → List (List Tuple)
put_tuple key t [] = (t ∷ []) ∷ []
put_tuple key t ([] ∷ groups) = put_tuple key t groups
put_tuple key t ((one ∷ more) ∷ groups) =
    if same_data (key one) (key t) then (one ∷ more ++ t ∷ []) ∷ groups else ((one ∷ more) ∷ put_tuple key t groups)

-- tuples put to the groups of their keys, in turn
abbrev pub put_tuples : (Tuple → List Datum) → List (List Tuple) → List Tuple → List (List Tuple)
put_tuples key groups [] = groups
put_tuples key groups (t ∷ ts) = put_tuples key (put_tuple key t groups) ts

-- ---- ORDER BY: nulls are least, DESC turns a key round, and what ties stays in order

-- A row with what it is ordered by.
pub record Row : Type 0 where
  pub items : List Datum
  pub keys : List Datum

-- the order by one key; DESC turns it round (chapter 4.10)
abbrev pub by_key : Bool → Datum → Datum → Ordering
by_key true x y = datum_cmp y x
by_key false x y = datum_cmp x y

-- the first of the data; of none it is null
abbrev pub first : List Datum → Datum
first [] = null
first (x ∷ xs) = x

-- the data behind the first
abbrev pub rest : List Datum → List Datum
rest [] = []
rest (x ∷ xs) = xs

-- key by key
abbrev pub keys_cmp : List TypedKey → List Datum → List Datum → Ordering
keys_cmp [] xs ys = Equal
keys_cmp (k ∷ ks) xs ys = ordering_then (by_key k.is_descending (first xs) (first ys)) (keys_cmp ks (rest xs) (rest ys))

-- whether a row stands before another by their keys
abbrev pub precedes : List TypedKey → Row → Row → Bool
precedes keys a b = is_lt (keys_cmp keys a.keys b.keys)

-- a row put among sorted ones, behind those that it doesn't precede
abbrev pub put_row : List TypedKey → Row → List Row → List Row
put_row keys r [] = r ∷ []
put_row keys r (x ∷ rows) = if precedes keys r x then r ∷ x ∷ rows else (x ∷ put_row keys r rows)

-- rows put among sorted ones, in turn
abbrev pub put_rows : List TypedKey → List Row → List Row → List Row
put_rows keys sorted [] = sorted
put_rows keys sorted (r ∷ rows) = put_rows keys (put_row keys r sorted) rows

-- rows sorted by their keys (chapter 4.10)
abbrev pub in_order : List TypedKey → List Row → List Row
in_order keys = put_rows keys []

-- ---- SELECT

module _ (m : PersistenceUnit) (s : StoredSet) (parameters : List Datum) where
  -- what a tuple is grouped by (chapter 4.8)
  abbrev pub group_key : List TypedPath → Tuple → List Datum
  group_key paths t = map (path_datum m s t) paths

  -- without GROUP BY there is one group, also of nothing
  abbrev pub groups_of : List TypedPath → List Tuple → List Case
  groups_of [] all = case_of all ∷ []
  groups_of (p ∷ ps) all = map case_of (put_tuples (group_key (p ∷ ps)) [] all)

  -- what rows are made for: groups where the SELECT makes groups, else tuples
  abbrev pub cases_of : TypedSelect → List Tuple → List Case
  cases_of q all = if is_grouping q then groups_of q.groups all else map alone all

  -- whether a key of ORDER BY has a null step in its path
  abbrev pub key_breaks : Tuple → TypedKey → Bool
  key_breaks t key = by key.by
    where
      by : TypedSorted → Bool
      by (TypedSorted.Item n) = false
      by (TypedSorted.Path p) = is_broken m s t p
      by (TypedSorted.Value v) = value_drops m s parameters v t

  -- whether a tuple has a null step in some path of the block
  abbrev pub select_drops : TypedSelect → Tuple → Bool
  select_drops q t =
      list_any (λ v. value_drops m s parameters v t) q.items
      || drops_any (option_map (condition m s parameters) q.filter) t
      || list_any (is_broken m s t) q.groups || drops_any (option_map (condition m s parameters) q.having) t
      || list_any (key_breaks t) q.order

  -- what a key of ORDER BY is: an item of the row, or what its path or value gives (chapter 4.10)
  abbrev pub key_datum : List Datum → Case → TypedKey → Answer Datum
  key_datum items at key = by key.by
    where
      by : TypedSorted → Answer Datum
      by (TypedSorted.Item n) = gives (slice_index_or items n null)
      by (TypedSorted.Path p) = gives (path_datum m s at.tuple p)
      by (TypedSorted.Value v) = value m s parameters v at

  -- a row: what its items give, with what it is ordered by (chapter 4.9)
  abbrev pub row_of : TypedSelect → Case → Answer Row
  row_of q at =
      every (map (λ v. value m s parameters v at) q.items) >>= λ items.
      under (λ keys. record { items = items; keys = keys }) (every (map (key_datum items at) q.order))

  -- under DISTINCT the first of rows with the same items, else all rows (chapter 4.9)
  abbrev pub distinct : Bool → List Row → List Row
  distinct is_distinct rows = if is_distinct then once (λ a b. same_data a.items b.items) rows else rows

  -- the tuples of a SELECT: of FROM, where WHERE is true and no path has a null step
  abbrev pub selected_tuples : TypedSelect → Answer (List Tuple)
  selected_tuples q =
      tuples_where (map (source m s parameters) q.sources) (select_drops q)
      (option_map (condition m s parameters) q.filter) []

  -- the rows of what HAVING is true of (chapter 4.8)
  abbrev pub rows_of : TypedSelect → List Case → Answer (List Row)
  rows_of q cases = kept (truth_of_any (option_map (condition m s parameters) q.having)) cases
      >>= λ left. every (map (row_of q) left)

  -- the rows that a SELECT gives (chapter 4.2.1)
  abbrev pub selected : TypedSelect → Answer (List (List Datum))
  selected q =
      selected_tuples q >>= λ all.
      under (λ rows. map (λ (r : Row). r.items) (in_order q.order (distinct q.is_distinct rows)))
      (rows_of q (cases_of q all))
