-- What a SELECT over the cells shows.
use Rattle.std.proofs.Common.{◌≡◌, ℕ, ℤ, ◌&&◌, Bool, true, false, cond, List, [], ◌∷◌, ◌++◌, map, filter, flat_map, Ok, Err, Result, IfOk, refl, sym, ap, ap₂, ◌∙◌, subst, subst₂, Ordering, Less, Equal, Greater, is_eq, not, true≢false, IsPermutation, inl, inr}
use Rattle.std.specs.List.{AllByRecursion, list_all}
use Rattle.std.specs.Ordering.{ordering_then, ordering_reverse}
use Rattle.std.proofs.lemmas.Bool.{and_parts, not-true}
use Rattle.sqlite.specs.declared.types.Value.{Value}
use Rattle.sqlite.specs.declared.types.Value.TheVariants.{Null, Int, Real, Text, Blob}
use Rattle.sqlite.specs.Order.{Row, column, value_cmp}
use Rattle.sqlite.specs.Tree.{Trees, IsAscending, rowid}
use Rattle.sqlite.specs.Term.{Env, holds}
use Rattle.sqlite.specs.Ops.{binary, is_true, from_truth}
use Rattle.sqlite.specs.Query.{inner, end, IsAnswer, IsSureAnswer, output, output_cmp, page, Output, matches}
use Rattle.sqlite.specs.Program.{overlay}
use Rattle.sqlite_sql.specs.declared.ops.BinaryOp.TheVariants.{Compare}
use Rattle.sqlite_sql.specs.declared.ops.CompareOp.TheVariants.{Eq}
use Rattle.sqlite.specs.Collation.TheVariants.{Binary}
use Rattle.sqlite_value.specs.Keys.{first_key, plain}
use Rattle.sqlite_value.proofs.OrderLemmas.{value_cmp_total, value_cmp-Null, value_cmp-Int}
use Rattle.sqlite_sql.proofs.QueryLemmas.{output_cmp_total}
use Rattle.sqlite_schema.specs.Rules.{Keeps, agree, differ, equal}
use Rattle.sqlite_schema.specs.declared.schema.Constraint.TheVariants.{Unique}
use Rattle.sqlite_keyed.specs.Lists.{sort_by}
use Rattle.sqlite_keyed.proofs.ListLemmas.{map-map, ascending-map, ascending-filter, ascending_weaker, all-filter, all_map, all_weaker, all_both, none_from_any}
use Rattle.sqlite_keyed.proofs.SortLemmas.{sorted_is-sort_by, sort_by-map}
use Rattle.jpa_cells.specs.meaning.Schema.{cell_schema}
use Rattle.jpa_cells.specs.meaning.Tables.{cell_cmp}
use Rattle.jpa_cells.specs.meaning.Content.{shown_cell, IsShownCell, is_of, cell_in, cells_of, IsCellRow, AreCells}
use Rattle.jpa_cells.proofs.meaning.Texts.{row_query}
use Rattle.jpa_cells.proofs.meaning.ListFacts.{flat_map_as_filter, sort_same, all-sort, ascending_by, ascending_from_each, all_themselves, filter_passes}

told : (b : Bool) → is_true (from_truth (Rattle.std.proofs.Common.Some b)) ≡ b
told true = refl
told false = refl

pub equals_int : (v : Value) (n : ℤ) → is_true (binary (Compare Eq Binary) v (Int n)) ≡ is_eq (value_cmp v (Int n))
unfolding binary
equals_int Null n = sym (ap is_eq (value_cmp-Null (Int n)))
equals_int (Int m) n = told _
equals_int (Real x) n = told _
equals_int (Text t) n = told _
equals_int (Blob b) n = told _

pub equals_blob : (v : Value) (k : List ℕ) → is_true (binary (Compare Eq Binary) v (Blob k)) ≡ is_eq (value_cmp v (Blob k))
unfolding binary
equals_blob Null k = sym (ap is_eq (value_cmp-Null (Blob k)))
equals_blob (Int m) k = told _
equals_blob (Real x) k = told _
equals_blob (Text t) k = told _
equals_blob (Blob b) k = told _

pub differs_int : (m n : ℤ) → value_cmp (Int m) (Int n) ≡ Less → differ (Int m) (Int n) ≡ true
unfolding binary
differs_int m n h = rw h refl

pub right_true : (b : Bool) → (b && true) ≡ b
right_true true = refl
right_true false = refl

pub then_equal : (o : Ordering) → ordering_then o Equal ≡ o
then_equal Less = refl
then_equal Equal = refl
then_equal Greater = refl

module _ (table : ℤ) (key : List ℕ) where
  abbrev pub params : Row
  params = Int table ∷ Blob key ∷ []

  abbrev pub env : Row → Env
  env r = params ∷ r ∷ []

  pub tests : (r : Row) → list_all (holds (env r)) row_query.filter ≡ is_of table key r
  tests r = ap₂ ◌&&◌ (equals_int (column r 1) table) (right_true _ ∙ equals_blob (column r 2) key)

  pub matched : (db : Trees) → matches (overlay db []) row_query.filter (inner 0 end) (params ∷ []) ≡ map env (filter (is_of table key) (db 0))
  matched db = flat_map_as_filter (λ r. list_all (holds (env r)) row_query.filter) env (db 0) ∙ (λ i. map env (filter (λ r. tests r i) (db 0)))

  abbrev shown_row : Row → Row
  shown_row r = column r 3 ∷ column r 4 ∷ []

  abbrev out : Row → Output
  out r = output row_query (env r)

  abbrev row_cmp : Row → Row → Ordering
  row_cmp a b = output_cmp row_query (out a) (out b)

  -- the columns of a row rise as its cells
  pub compares : (a b : Row) → IsCellRow a → IsCellRow b → row_cmp a b ≡ cell_cmp (cell_in a) (cell_in b)
  compares a b p q = rw (p.is, q.is) (then_equal _ ∙ value_cmp-Int p.column q.column)

  pub shown : (db : Trees) → AreCells (db 0) → IsAscending (λ a b. is_eq (value_cmp (column a 3) (column b 3)) ≡ false) (filter (is_of table key) (db 0))
      → (rows : List Row) → IsSureAnswer row_query (overlay db []) params rows → (map shown_cell rows ≡ cells_of table key (db 0)) × AllByRecursion IsShownCell rows
  shown db cells apart rows answer =
      let a : IsAnswer row_query (overlay db []) params rows = answer Null in
      let mine = filter (is_of table key) (db 0) in
      let kept : a.kept ≡ map out mine = a.distinct ∙ ap (map (output row_query)) (a.grouped ∙ matched db) ∙ map-map _ _ mine in
      let ordered = sorted_is-sort_by (output_cmp row_query) (output_cmp_total row_query) (map out mine) a.ordered
      (ascending-map (λ x y. is_eq (output_cmp row_query x y) ≡ false) out mine (ascending_weaker _ (λ x y. is_eq (row_cmp x y) ≡ false) (λ x y h. ap is_eq (then_equal _) ∙ h) mine apart)) (subst (λ k. IsPermutation k a.ordered) kept a.same) a.sorted in
      let rows_are : rows ≡ map shown_row (sort_by row_cmp mine) =
      a.shown ∙ ap (λ xs. page row_query params (map (λ (o : Output). o.1) xs)) (ordered ∙ sort_by-map (output_cmp row_query) out mine) ∙ map-map _ _ _ in
      let all = all-filter IsCellRow (is_of table key) (db 0) cells.each in (
        ap (map _) rows_are ∙ map-map _ _ _ ∙ ap (map cell_in) (sort_same IsCellRow row_cmp (λ x y. cell_cmp (cell_in x) (cell_in y)) compares mine all) ∙ sym (sort_by-map cell_cmp cell_in mine),
        subst (AllByRecursion IsShownCell) (sym rows_are) (all_map IsShownCell shown_row _ (all_weaker IsCellRow _ (λ r h. record { column = h.column; value = h.value; is = ap shown_row h.is }) _ (all-sort IsCellRow row_cmp row_cmp (λ a b p q. refl) mine all))),
      )

pub tie : (o : Ordering) → is_eq o ≡ true → o ≡ Equal
tie Less h = absurd (true≢false (sym h))
tie Equal h = refl
tie Greater h = absurd (true≢false (sym h))

pub tied : (a b v : Value) → is_eq (value_cmp a v) ≡ true → is_eq (value_cmp b v) ≡ true → is_eq (value_cmp a b) ≡ true
tied a b v p q = ap is_eq (value_cmp_total.congr a v b (tie _ p) ∙ value_cmp_total.antisymm v b ∙ ap ordering_reverse (tie _ q))

pub equal_int : (a b : Value) (n : ℤ) → b ≡ Int n → equal Binary a b ≡ is_eq (value_cmp a b)
equal_int a b n is = subst (λ v. equal Binary a v ≡ is_eq (value_cmp a v)) (sym is) (equals_int a n)

pub equal_blob : (a b : Value) (k : List ℕ) → b ≡ Blob k → equal Binary a b ≡ is_eq (value_cmp a b)
equal_blob a b k is = subst (λ v. equal Binary a v ≡ is_eq (value_cmp a v)) (sym is) (equals_blob a k)

pub differs : (a b : Value) (m n : ℤ) → a ≡ Int m → b ≡ Int n → value_cmp a b ≡ Less → differ a b ≡ true
differs a b m n p q = subst₂ (λ v w. value_cmp v w ≡ Less → differ v w ≡ true) (sym p) (sym q) (differs_int m n)

pub agree_three : (a b : Row) → agree plain (1 ∷ 2 ∷ 3 ∷ []) a (1 ∷ 2 ∷ 3 ∷ []) b
    ≡ (equal Binary (column a 1) (column b 1) && (equal Binary (column a 2) (column b 2) && (equal Binary (column a 3) (column b 3) && true)))
unfolding first_key
agree_three a b = refl

of_both : (table : ℤ) (key : List ℕ) (r : Row) → is_of table key r ≡ true → (is_eq (value_cmp (column r 1) (Int table)) ≡ true) × (is_eq (value_cmp (column r 2) (Blob key)) ≡ true)
of_both table key r h = and_parts (is_eq (value_cmp (column r 1) (Int table))) (is_eq (value_cmp (column r 2) (Blob key))) h

-- no two rows of the table have the same column for one key
module _ (db : Trees) (cells : AreCells (db 0)) (unique : Keeps Unique cell_schema db) where
  abbrev pub Clash : Row → Row → Bool
  Clash other row = agree plain (1 ∷ 2 ∷ 3 ∷ []) other (1 ∷ 2 ∷ 3 ∷ []) row && differ (rowid other) (rowid row)

  pub clashes_none : AllByRecursion (λ row. AllByRecursion (λ other. Clash other row ≡ false) (db 0)) (db 0)
  clashes_none = all_weaker _ (λ row. AllByRecursion (λ other. Clash other row ≡ false) (db 0))
      (λ row h. none_from_any (λ other. Clash other row) (db 0) (not-true _ (and_parts _ _ h).0)) (db 0) unique.0

  abbrev Fits : ℤ → List ℕ → Row → Type 0
  Fits table key row = IsCellRow row × (is_of table key row ≡ true)

  apart : (table : ℤ) (key : List ℕ) (a b : Row) → Fits table key a → Fits table key b → value_cmp (rowid a) (rowid b) ≡ Less → Clash a b ≡ false → is_eq (value_cmp (column a 3) (column b 3)) ≡ false
  apart table key a b p q below clash =
      let x = is_eq (value_cmp (column a 3) (column b 3)) in
      let one = tied (column a 1) (column b 1) (Int table) (of_both table key a p.1).0 (of_both table key b q.1).0 in
      let two = tied (column a 2) (column b 2) (Blob key) (of_both table key a p.1).1 (of_both table key b q.1).1 in
      let first = equal_int (column a 1) (column b 1) q.0.table (ap (λ r. column r 1) q.0.is) ∙ one in
      let second = equal_blob (column a 2) (column b 2) q.0.key (ap (λ r. column r 2) q.0.is) ∙ two in
      let third = equal_int (column a 3) (column b 3) q.0.column (ap (λ r. column r 3) q.0.is) in
      let other : differ (rowid a) (rowid b) ≡ true = differs (rowid a) (rowid b) p.0.id q.0.id (ap rowid p.0.is) (ap rowid q.0.is) below in
      let whole : (agree plain (1 ∷ 2 ∷ 3 ∷ []) a (1 ∷ 2 ∷ 3 ∷ []) b && differ (rowid a) (rowid b)) ≡ x =
      ap (λ d. agree plain (1 ∷ 2 ∷ 3 ∷ []) a (1 ∷ 2 ∷ 3 ∷ []) b && d) other ∙ right_true _ ∙ agree_three a b ∙ ap₂ (λ f g. f && (g && (equal Binary (column a 3) (column b 3) && true))) first second ∙ right_true _ ∙ third in
      sym whole ∙ clash

  pub columns_differ : (table : ℤ) (key : List ℕ) → IsAscending (λ a b. is_eq (value_cmp (column a 3) (column b 3)) ≡ false) (filter (is_of table key) (db 0))
  columns_differ table key =
      let test = is_of table key in
      let pairs = ascending_from_each (λ other row. Clash other row ≡ false) (db 0) (db 0) (all_themselves (db 0)) clashes_none in
      let fits = all_both IsCellRow (λ r. test r ≡ true) (Fits table key) (λ r p q. (p, q)) _ (all-filter IsCellRow test (db 0) cells.each) (filter_passes test (db 0)) in
      ascending_by (Fits table key) (λ a b. value_cmp (rowid a) (rowid b) ≡ Less) (λ a b. Clash a b ≡ false) _ (apart table key) _ fits (ascending-filter _ test (db 0) cells.rise) (ascending-filter _ test (db 0) pairs)
