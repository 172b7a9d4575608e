-- Laws of what queries mean, in a reader's words.
use Rattle.std.specs.Prelude.{◌≡◌, ℕ, Bool, true, false, not, ◌||◌, List, [], ◌∷◌, ◌++◌, map, length, Option, Some}
use Rattle.std.specs.Prelude.{None, if◌then◌else◌}
use Rattle.std.specs.List.{AllByRecursion, filter, list_any}
use Rattle.std.specs.List.Sorted.{IsSortedBy, IsStableBy}
use Rattle.jpa_model.specs.declared.unit.PersistenceUnit.{PersistenceUnit}
use Rattle.jpa_stored.specs.objects.Sets.{StoredSet}
use Rattle.jpql_trees.specs.declared.tree.Against.{Against}
use Rattle.jpql_trees.specs.declared.tree.Comparison.{Comparison}
use Rattle.jpql_trees.specs.declared.typed.path.Step.{Step}
use Rattle.jpql_trees.specs.declared.typed.typed.TypedCondition.{TypedCondition}
use Rattle.jpql_trees.specs.declared.typed.typed.TypedCondition.TheVariants as is
use Rattle.jpql_trees.specs.declared.typed.typed.TypedOrigin.{TypedOrigin}
use Rattle.jpql_trees.specs.declared.typed.typed.TypedSource.{TypedSource, roll-TypedSource}
use Rattle.jpql_trees.specs.declared.typed.typed.TypedJoin.{TypedJoin, roll-TypedJoin}
use Rattle.jpql_trees.specs.declared.typed.typed.TypedBlock.{TypedBlock, roll-TypedBlock}
use Rattle.jpql_trees.specs.declared.typed.typed.TypedKey.{TypedKey}
use Rattle.jpql_trees.specs.declared.typed.typed.TypedValue.{TypedValue}
use Rattle.jpql_meaning.specs.declared.eval.datum.Datum.{Datum}
use Rattle.jpql_meaning.specs.declared.eval.datum.Truth.{Truth}
use Rattle.jpql_meaning.specs.eval.Answers.{Answer, gives, ◌>>=◌, each}
use Rattle.jpql_meaning.specs.eval.Truths.{is_yes}
use Rattle.jpql_meaning.specs.eval.Data.{same_data}
use Rattle.jpql_meaning.specs.eval.Aggregates.{once}
use Rattle.jpql_meaning.specs.eval.Judged.{judged}
use Rattle.jpql_meaning.specs.plan.Paths.{Entry, Tuple, object_at, with_object, objects, related_objects}
use Rattle.jpql_meaning.specs.plan.Meaning.{Case, alone, is_any, in_turn, kept, tuples_where, value, value_drops}
use Rattle.jpql_meaning.specs.plan.Meaning.{condition}
use Rattle.jpql_meaning.specs.plan.Meaning.{source, join, rows, exists, truth}
use Rattle.jpql_meaning.specs.plan.Alone.{is_alone_block}
use Rattle.jpql_meaning.specs.plan.Selection.{Row, put_tuples, precedes, in_order}

-- the objects of a class, without joins
abbrev pub range_of : ℕ → TypedSource
range_of class = roll-TypedSource (record { origin = TypedOrigin.Entity class; joins = [] })

-- a join from a variable along a step, with or without LEFT and ON
abbrev pub join_along : Bool → ℕ → Step → Option TypedCondition → TypedJoin
join_along is_left of step on = roll-TypedJoin (record { is_left = is_left; of = of; step = step; on = on })

-- a nested SELECT with this item, FROM and WHERE
abbrev pub block_of : TypedValue → List TypedSource → TypedCondition → TypedBlock
block_of item sources filtered = roll-TypedBlock (record { item = item; sources = sources; filter = Some filtered })

-- the tuples with each object that a step from a variable leads to
abbrev pub joined_with : PersistenceUnit → StoredSet → ℕ → Step → Tuple → List Tuple
joined_with m s of step t = map (λ (e : Entry). with_object t (Some e)) (related_objects m s (object_at t of) step)

-- FROM, and nested blocks (chapters 4.4, 4.6.14 and 4.6.16), over a set, with parameters.
pub record FromLaws (m : PersistenceUnit) (s : StoredSet) (ps : List Datum) : Type 0 where
  -- a range is the objects of its class and those below it, in rising order
  pub range : (class : ℕ) (t : Tuple) → source m s ps (range_of class) t
      ≡ gives (map (λ (e : Entry). with_object t (Some e)) (objects m s class))
  -- an inner join is a filter of the related objects, and without ON all of them
  pub inner : (of : ℕ) (step : Step) (on : TypedCondition) (t : Tuple)
      → join m s ps (join_along false of step (Some on)) t ≡ kept (λ e. truth m s ps on (alone e))
      (joined_with m s of step t)
  pub inner_of_all : (of : ℕ) (step : Step) (t : Tuple) → join m s ps (join_along false of step None) t
      ≡ gives (joined_with m s of step t)
  -- LEFT JOIN loses no tuple, and where no object is joined gives one with null
  pub left_keeps : (of : ℕ) (step : Step) (on : TypedCondition) (t : Tuple) (found : List Tuple)
      → join m s ps (join_along true of step (Some on)) t ≡ gives found → is_any found ≡ true
  pub left_null : (of : ℕ) (step : Step) (on : TypedCondition) (t : Tuple)
      → join m s ps (join_along false of step (Some on)) t ≡ gives []
      → join m s ps (join_along true of step (Some on)) t ≡ gives (with_object t None ∷ [])
  -- elements go on with each tuple of those before, and may be parted anywhere
  pub parted : (all more : List TypedSource) (t : Tuple)
      → in_turn (map (source m s ps) (all ++ more)) t
      ≡ (in_turn (map (source m s ps) all) t >>= each (in_turn (map (source m s ps) more)))
  -- the rows of a nested block are its item of each tuple that is left, in their order
  pub rows_each : (item : TypedValue) (sources : List TypedSource) (filtered : TypedCondition) (t : Tuple)
      (left : List Tuple) (gives_item : Tuple → Datum)
      → tuples_where (map (source m s ps) sources)
      (λ e. value_drops m s ps item e || (condition m s ps filtered).drops e) (Some (condition m s ps filtered)) t
      ≡ gives left
      → ((e : Tuple) → value m s ps item (alone e) ≡ gives (gives_item e))
      → rows m s ps (block_of item sources filtered) t ≡ gives (map gives_item left)
  -- a value beside the rows of a nested block: it and all rows are computed, and then it is judged
  pub beside_rows : (against : Against) (op : Comparison) (a : TypedValue) (b : TypedBlock) (at : Case)
      → truth m s ps (is.Rows against op a b) at
      ≡ (value m s ps a at >>= λ x. rows m s ps b at.tuple >>= judged against op x)
  -- EXISTS is whether the nested block has a tuple, where its item never overflows
  pub exists_any : (item : TypedValue) (sources : List TypedSource) (filtered : TypedCondition) (t : Tuple)
      (left : List Tuple) (gives_item : Tuple → Datum)
      → tuples_where (map (source m s ps) sources)
      (λ e. value_drops m s ps item e || (condition m s ps filtered).drops e) (Some (condition m s ps filtered)) t
      ≡ gives left
      → ((e : Tuple) → value m s ps item (alone e) ≡ gives (gives_item e))
      → exists m s ps (block_of item sources filtered) t ≡ gives (is_any left)

-- Nested blocks that name no variable around them (chapter 4.6.16): their rows are the same for all
-- tuples of so many variables, or Overflow for all.
pub record AloneLaws (m : PersistenceUnit) (s : StoredSet) (ps : List Datum) : Type 0 where
  pub rows_alone : (n : ℕ) (b : TypedBlock) (p q : Tuple) → is_alone_block n b ≡ true → length p ≡ n → length q ≡ n
      → rows m s ps b p ≡ rows m s ps b q

-- WHERE, ON and HAVING (chapters 4.5, 4.4.5 and 4.8): what is true is kept.
pub record WhereLaws (test : Tuple → Answer Truth) (drops : Tuple → Bool) (ts : List Tuple) : Type 0 where
  -- where nothing overflows, it is the filter of what is true
  pub filtered : (holds : Tuple → Truth) → ((t : Tuple) → test t ≡ gives (holds t)) →
      kept test ts ≡ gives (filter (λ t. is_yes (holds t)) ts)
  -- tuples may be tested one by one
  pub one_by_one : kept test (filter (λ t. not (drops t)) ts)
      ≡ each (λ t. if drops t then gives [] else kept test (t ∷ [])) ts

-- ORDER BY (chapter 4.10): the stable sort by the keys.
pub record OrderLaws (keys : List TypedKey) (rows : List Row) : Type 0 where
  pub sorted : IsSortedBy (precedes keys) (in_order keys rows)
  pub stable : IsStableBy (precedes keys) rows (in_order keys rows)
  -- and there is no other
  pub one : (others : List Row) → IsSortedBy (precedes keys) others → IsStableBy (precedes keys) rows others →
      others ≡ in_order keys rows

-- What parts two rows, the one of the earlier tuple being the first. Where it is in front and the
-- other behind, the other doesn't precede it; where it is the other way round, the other does.
abbrev pub StandsCut : List TypedKey → Bool → Bool → Row → Row → Type 0
StandsCut keys true true x y = Unit {0}
StandsCut keys true false x y = precedes keys y x ≡ false
StandsCut keys false true x y = precedes keys y x ≡ true
StandsCut keys false false x y = Unit {0}

-- a test parts tuples into a front of the order and the rest
abbrev pub AreCut : List TypedKey → (Tuple → Bool) → (Tuple → Row) → List Tuple → Type 0
AreCut keys p row [] = Unit {0}
AreCut keys p row (t ∷ ts) =
    AllByRecursion (λ u. StandsCut keys (p t) (p u) (row t) (row u)) ts × AreCut keys p row ts

-- ORDER BY of a front (chapter 4.10): the rows of all are those of the front, and then the others.
pub record FrontLaws (keys : List TypedKey) (p : Tuple → Bool) (row : Tuple → Row) (ts : List Tuple) : Type 0 where
  pub parted : AreCut keys p row ts → in_order keys (map row ts)
      ≡ in_order keys (map row (filter p ts)) ++ in_order keys (map row (filter (λ t. not (p t)) ts))

-- DISTINCT goes by the items of rows.
abbrev pub is_same_row : Row → Row → Bool
is_same_row a b = same_data a.items b.items

-- DISTINCT (chapter 4.9): one more row is kept exactly where no row before it is the same.
pub record DistinctLaws (rows : List Row) (row : Row) : Type 0 where
  pub one_more : once is_same_row (rows ++ row ∷ [])
      ≡ (if list_any (λ (before : Row). is_same_row before row) rows then once is_same_row rows
      else once is_same_row rows ++ row ∷ [])

-- the tuples that are grouped by the same as one, and those that aren't
abbrev pub grouped_with : (Tuple → List Datum) → Tuple → List Tuple → List Tuple
grouped_with key t ts = filter (λ u. same_data (key t) (key u)) ts

-- the tuples that are not grouped by the same as one
abbrev pub grouped_apart : (Tuple → List Datum) → Tuple → List Tuple → List Tuple
grouped_apart key t ts = filter (λ u. not (same_data (key t) (key u))) ts

-- GROUP BY (chapter 4.8) parts the tuples. The first group has the first tuple and all that are
-- grouped by the same, in their order. The others are the groups of those that are left.
pub record GroupLaws (key : Tuple → List Datum) (t : Tuple) (ts : List Tuple) : Type 0 where
  pub first_group : put_tuples key [] (t ∷ ts) ≡ (t ∷ grouped_with key t ts)
      ∷ put_tuples key [] (grouped_apart key t ts)
