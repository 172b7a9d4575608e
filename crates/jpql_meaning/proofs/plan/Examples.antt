-- Titles with a price: cut into a front of their order and the rest, and sorted by a value.
use Rattle.std.proofs.Common.{rules, ap, ◌∙◌}
use Rattle.std.specs.Prelude.{◌≡◌, refl, ℕ, ℤ, pos, negsuc, Bool, false, true, nat_lt, List, [], ◌∷◌, ◌++◌, map, Some, None}
use Rattle.std.proofs.lemmas.Bool.{false≢true}
use Rattle.std.specs.List.{filter}
use Rattle.jpa_value.specs.declared.value.Value.{Value}
use Rattle.jpa_model.specs.declared.unit.Member.{Member}
use Rattle.jpa_model.specs.declared.unit.PersistenceUnit.{PersistenceUnit}
use Rattle.jpa_stored.specs.objects.Sets.{StoredSet}
use Rattle.jpql_trees.specs.declared.tree.Against.{Against}
use Rattle.jpql_trees.specs.declared.tree.Arithmetic.{Arithmetic}
use Rattle.jpql_trees.specs.declared.tree.Comparison.{Comparison}
use Rattle.jpql_trees.specs.declared.typed.path.TypedPath.{TypedPath}
use Rattle.jpql_trees.specs.declared.typed.typed.TypedBlock.{TypedBlock}
use Rattle.jpql_trees.specs.declared.typed.typed.TypedCondition.TheVariants as is
use Rattle.jpql_trees.specs.declared.typed.typed.TypedKey.{TypedKey}
use Rattle.jpql_trees.specs.declared.typed.typed.TypedSelect.{TypedSelect}
use Rattle.jpql_trees.specs.declared.typed.typed.TypedSorted.{TypedSorted}
use Rattle.jpql_trees.specs.declared.typed.typed.TypedValue.{TypedValue}
use Rattle.jpql_trees.specs.declared.typed.typed.TypedValue.TheFolds as folds
use Rattle.jpql_trees.specs.declared.typed.typed.TypedValue.TheVariants as v
use Rattle.jpql_meaning.specs.declared.eval.datum.Datum.{Datum}
use Rattle.jpql_meaning.specs.declared.eval.datum.Truth.{Truth}
use Rattle.jpql_meaning.specs.eval.Answers.{Answer, gives, overflows, ◌>>=◌, both, every, under}
use Rattle.jpql_meaning.specs.eval.Judged.{judged}
use Rattle.jpql_meaning.specs.eval.Numbers.{number, arithmetic}
use Rattle.jpql_meaning.specs.plan.Meaning.{Case, alone, rows, truth, value}
use Rattle.jpql_meaning.specs.plan.Paths.{Tuple, path_datum}
use Rattle.jpql_meaning.specs.plan.Selection.{Row, in_order, row_of, rows_of}
use Rattle.jpql_meaning.specs.plan.Laws.{AreCut}
use Rattle.jpql_meaning.proofs.plan.Blocks.{beside_rows}

-- the title of this number, with this price
abbrev priced : ℕ → ℕ → Tuple
priced n price =
    Some (record { table = 0; key = Value.Int (pos n) ∷ [] }, record { class = 0; version = None; values = Value.Int (pos price) ∷ []; owned = [] }) ∷ []

abbrev int_in : List Value → ℕ
int_in (Value.Int (pos n) ∷ values) = n
int_in _ = 0

abbrev price : Tuple → ℕ
price (Some e ∷ others) = int_in (e.1).values
price _ = 0

abbrev title : Tuple → ℕ
title (Some e ∷ others) = int_in (e.0).key
title _ = 0

abbrev int : ℕ → Datum
int n = Datum.Plain (Value.Int (pos n))

-- a row with the title's number, ordered by its price
abbrev by_price : Tuple → Row
by_price t = record { items = int (title t) ∷ []; keys = int (price t) ∷ [] }

abbrev order : Bool → List TypedKey
order is_descending = record { by = TypedSorted.Item 0; is_descending = is_descending } ∷ []

abbrev numbers : Bool → List Tuple → List (List Datum)
numbers is_descending ts = map (λ (r : Row). r.items) (in_order (order is_descending) (map by_price ts))

-- ---- those of a price below 9 stand in front of those of 9

abbrev titles : List Tuple
titles = priced 1 8 ∷ priced 2 5 ∷ priced 3 9 ∷ priced 4 5 ∷ priced 5 2 ∷ []

abbrev cheap : Tuple → Bool
cheap t = nat_lt (price t) 9

cheap_in_front : AreCut (order false) cheap by_price titles
cheap_in_front = ((tt, (refl, (tt, (tt, tt)))), ((refl, (tt, (tt, tt))), ((refl, (refl, tt)), ((tt, tt), (tt, tt)))))

rising : numbers false titles ≡ (int 5 ∷ []) ∷ (int 2 ∷ []) ∷ (int 4 ∷ []) ∷ (int 1 ∷ []) ∷ (int 3 ∷ []) ∷ []
rising = refl

cheap_rising : numbers false (filter cheap titles) ≡ (int 5 ∷ []) ∷ (int 2 ∷ []) ∷ (int 4 ∷ []) ∷ (int 1 ∷ []) ∷ []
cheap_rising = refl

-- ---- of titles that tie, the first stand in front under DESC too, and not the last

abbrev alike : List Tuple
alike = priced 1 7 ∷ priced 2 7 ∷ priced 3 7 ∷ []

first_in_front : AreCut (order true) (λ t. nat_lt (title t) 3) by_price alike
first_in_front = ((tt, (refl, tt)), ((refl, tt), (tt, tt)))

last_in_front : AreCut (order true) (λ t. nat_lt 1 (title t)) by_price alike → ⊥
last_in_front h = false≢true (h.0).0

falling : numbers true alike ≡ (int 1 ∷ []) ∷ (int 2 ∷ []) ∷ (int 3 ∷ []) ∷ []
falling = refl

-- ---- without ORDER BY all rows tie, and what stands first is in front

unordered : AreCut [] (λ t. nat_lt (title t) 4) by_price titles
unordered = ((tt, (tt, (refl, (refl, tt)))), ((tt, (refl, (refl, tt))), ((refl, (refl, tt)), ((tt, tt), (tt, tt)))))

-- ---- SELECT t.number FROM Title t ORDER BY t.price * factor: the key of a row is a value computed for it

abbrev path_to : Member → TypedPath
path_to member = record { variable = 0; class = 0; steps = record { class = 0; member = member } ∷ [] }

abbrev times : ℤ → TypedValue
times factor = v.Arithmetic Arithmetic.Times (v.Path (path_to (Member.Attribute 0))) (v.Integer factor)

abbrev by_times : ℤ → TypedSelect
by_times factor = record {
  is_distinct = false;
  items = v.Path (path_to (Member.KeyPart 0)) ∷ [];
  sources = [];
  filter = None;
  groups = [];
  having = None;
  order = record { by = TypedSorted.Value (times factor); is_descending = false } ∷ [];
}

module _ (m : PersistenceUnit) (s : StoredSet) (ps : List Datum) where
  path_gives : (p : TypedPath) (at : Case) → value m s ps (v.Path p) at ≡ gives (path_datum m s at.tuple p)
  path_gives p at = search (rules, folds.the_lemmas)

  times_gives : (factor : ℤ) (at : Case)
      → value m s ps (times factor) at ≡ arithmetic Arithmetic.Times (path_datum m s at.tuple (path_to (Member.Attribute 0))) (number factor)
  times_gives factor at = search (rules, folds.the_lemmas)

  abbrev row_by : ℤ → Tuple → Answer Row
  row_by factor t =
      let items = path_datum m s t (path_to (Member.KeyPart 0)) ∷ [] in
      let key = arithmetic Arithmetic.Times (path_datum m s t (path_to (Member.Attribute 0))) (number factor) in
      under (λ keys. record { items = items; keys = keys }) (both (λ x xs. x ∷ xs) key (gives []))

  row_is : (factor : ℤ) (t : Tuple) → row_of m s ps (by_times factor) (alone t) ≡ row_by factor t
  row_is factor t = rw (path_gives (path_to (Member.KeyPart 0)) (alone t)) (rw (times_gives factor (alone t)) refl)

  each_row : (factor : ℤ) (ts : List Tuple) → every (map (row_of m s ps (by_times factor)) (map alone ts)) ≡ every (map (row_by factor) ts)
  each_row factor [] = refl
  each_row factor (t ∷ ts) = λ i. both (λ row rows. row ∷ rows) (row_is factor t i) (each_row factor ts i)

  abbrev sorted_by_times : ℤ → Answer (List (List Datum))
  sorted_by_times factor =
      under (λ rows. map (λ (r : Row). r.items) (in_order (by_times factor).order rows)) (rows_of m s ps (by_times factor) (map alone titles))

  -- by the price times -1 the dearest title is the first
  dearest_first : sorted_by_times (negsuc 0) ≡ gives ((int 3 ∷ []) ∷ (int 1 ∷ []) ∷ (int 2 ∷ []) ∷ (int 4 ∷ []) ∷ (int 5 ∷ []) ∷ [])
  dearest_first = ap (under (λ rows. map (λ (r : Row). r.items) (in_order (by_times (negsuc 0)).order rows))) (each_row (negsuc 0) titles)

  -- and where a key is outside 64 bits, the statement overflows
  key_overflows : sorted_by_times (pos 9223372036854775807) ≡ overflows
  key_overflows =
      ap (under (λ rows. map (λ (r : Row). r.items) (in_order (by_times (pos 9223372036854775807)).order rows))) (each_row (pos 9223372036854775807) titles)

  -- ---- a title's price beside the rows of a block

  abbrev price_beside : Against → Comparison → ℤ → TypedBlock → Tuple → Answer Truth
  price_beside against op factor b t = truth m s ps (is.Rows against op (times factor) b) (alone t)

  beside : (against : Against) (op : Comparison) (factor : ℤ) (b : TypedBlock) (t : Tuple) (found : Answer (List Datum)) → rows m s ps b t ≡ found
      → price_beside against op factor b t
      ≡ (arithmetic Arithmetic.Times (path_datum m s t (path_to (Member.Attribute 0))) (number factor) >>= λ x. found >>= judged against op x)
  beside against op factor b t found e =
      beside_rows m s ps against op (times factor) b (alone t) ∙ ap (λ x. x >>= λ d. rows m s ps b t >>= judged against op d) (times_gives factor (alone t))
      ∙ ap
      (λ all. arithmetic Arithmetic.Times (path_datum m s t (path_to (Member.Attribute 0))) (number factor) >>= λ d. all >>= judged against op d) e

  -- 8 * 1 is at least all of 2, 8 and 5
  dearest : (b : TypedBlock) → rows m s ps b (priced 1 8) ≡ gives (int 2 ∷ int 8 ∷ int 5 ∷ [])
      → price_beside Against.All Comparison.AtLeast (pos 1) b (priced 1 8) ≡ gives Truth.Yes
  dearest b e = beside Against.All Comparison.AtLeast (pos 1) b (priced 1 8) (gives (int 2 ∷ int 8 ∷ int 5 ∷ [])) e

  -- the value is computed where there are no rows
  value_overflows : (b : TypedBlock) → rows m s ps b (priced 1 8) ≡ gives []
      → price_beside Against.Any Comparison.Equal (pos 9223372036854775807) b (priced 1 8) ≡ overflows
  value_overflows b e = beside Against.Any Comparison.Equal (pos 9223372036854775807) b (priced 1 8) (gives []) e

  -- and where a row is outside 64 bits, the condition overflows
  row_overflows : (b : TypedBlock) → rows m s ps b (priced 1 8) ≡ overflows → price_beside Against.Any Comparison.Equal (pos 1) b (priced 1 8) ≡ overflows
  row_overflows b e = beside Against.Any Comparison.Equal (pos 1) b (priced 1 8) overflows e
