-- What the SELECT of a whole table shows.
use Rattle.std.proofs.Common.{◌≡◌, ℤ, ◌&&◌, true, false, List, [], ◌∷◌, map, filter, refl, sym, ap, ap₂, ◌∙◌, subst, Ordering, Less, Equal, Greater, is_eq, IsPermutation}
use Rattle.std.specs.List.{AllByRecursion, list_all}
use Rattle.std.specs.Ordering.{ordering_then}
use Rattle.sqlite.specs.declared.types.Value.TheVariants.{Null, Int}
use Rattle.sqlite.specs.Order.{Row, column, value_cmp}
use Rattle.sqlite.specs.Tree.{Trees, IsAscending, rowid}
use Rattle.sqlite.specs.Term.{Env, holds}
use Rattle.sqlite.specs.Query.{inner, end, IsAnswer, IsSureAnswer, output, output_cmp, page, Output, matches}
use Rattle.sqlite.specs.Program.{overlay}
use Rattle.sqlite.specs.Collation.TheVariants.{Binary}
use Rattle.sqlite_value.specs.Keys.{plain}
use Rattle.sqlite_value.proofs.OrderLemmas.{value_cmp-Int, value_cmp-Blob}
use Rattle.sqlite_sql.proofs.QueryLemmas.{output_cmp_total}
use Rattle.sqlite_schema.specs.Rules.{Keeps, agree, differ, equal}
use Rattle.sqlite_schema.specs.declared.schema.Constraint.TheVariants.{Unique}
use Rattle.sqlite_keyed.specs.Lists.{sort_by}
use Rattle.sqlite_keyed.proofs.ListLemmas.{map-map, ascending-map, ascending-filter, all-filter, all_map, all_weaker, all_both}
use Rattle.sqlite_keyed.proofs.SortLemmas.{sorted_is-sort_by, sort_by-map}
use Rattle.jpa_cells.specs.meaning.Schema.{cell_schema}
use Rattle.jpa_cells.specs.meaning.Content.{entry_cmp, is_in, entry_in, entries_of, shown_entry, IsShownEntry, IsCellRow, AreCells}
use Rattle.jpa_cells.proofs.meaning.Texts.{table_query}
use Rattle.jpa_cells.proofs.meaning.ListFacts.{flat_map_as_filter, sort_same, all-sort, ascending_by, ascending_from_each, all_themselves, filter_passes}
use Rattle.jpa_cells.proofs.meaning.RowMeaning.{equals_int, right_true, then_equal, tied, equal_int, equal_blob, differs, agree_three, clashes_none, Clash}

is_eq_both : (x y : Ordering) → is_eq (ordering_then x y) ≡ (is_eq x && is_eq y)
is_eq_both Less y = refl
is_eq_both Equal y = refl
is_eq_both Greater y = refl

module _ (table : ℤ) where
  abbrev pub table_params : Row
  table_params = Int table ∷ []

  abbrev pub env : Row → Env
  env r = table_params ∷ r ∷ []

  tests : (r : Row) → list_all (holds (env r)) table_query.filter ≡ is_in table r
  tests r = right_true _ ∙ equals_int (column r 1) table

  matched : (db : Trees) → matches (overlay db []) table_query.filter (inner 0 end) (table_params ∷ []) ≡ map env (filter (is_in table) (db 0))
  matched db = flat_map_as_filter (λ r. list_all (holds (env r)) table_query.filter) env (db 0) ∙ (λ i. map env (filter (λ r. tests r i) (db 0)))

  abbrev shown_row : Row → Row
  shown_row r = column r 2 ∷ column r 3 ∷ column r 4 ∷ []

  abbrev pub out : Row → Output
  out r = output table_query (env r)

  abbrev pub row_cmp : Row → Row → Ordering
  row_cmp a b = output_cmp table_query (out a) (out b)

  by_parts : (a b : Row) → row_cmp a b ≡ ordering_then (value_cmp (column a 2) (column b 2)) (value_cmp (column a 3) (column b 3))
  by_parts a b = ap (ordering_then (value_cmp (column a 2) (column b 2))) (then_equal _)

  pub compares : (a b : Row) → IsCellRow a → IsCellRow b → row_cmp a b ≡ entry_cmp (entry_in a) (entry_in b)
  compares a b p q = by_parts a b ∙ rw (p.is, q.is) (ap₂ ordering_then (value_cmp-Blob p.key q.key) (value_cmp-Int p.column q.column))

  module _ (db : Trees) (cells : AreCells (db 0)) (unique : Keeps Unique cell_schema db) where
    abbrev Fits : Row → Type 0
    Fits row = IsCellRow row × (is_in table row ≡ true)

    apart : (a b : Row) → Fits a → Fits b → value_cmp (rowid a) (rowid b) ≡ Less → Clash db cells unique a b ≡ false → is_eq (row_cmp a b) ≡ false
    apart a b p q below clash =
        let first = equal_int (column a 1) (column b 1) q.0.table (ap (λ r. column r 1) q.0.is) ∙ tied (column a 1) (column b 1) (Int table) p.1 q.1 in
        let second = equal_blob (column a 2) (column b 2) q.0.key (ap (λ r. column r 2) q.0.is) in
        let third = equal_int (column a 3) (column b 3) q.0.column (ap (λ r. column r 3) q.0.is) in
        let other : differ (rowid a) (rowid b) ≡ true = differs (rowid a) (rowid b) p.0.id q.0.id (ap rowid p.0.is) (ap rowid q.0.is) below in
        let whole : (agree plain (1 ∷ 2 ∷ 3 ∷ []) a (1 ∷ 2 ∷ 3 ∷ []) b && differ (rowid a) (rowid b)) ≡ is_eq (row_cmp a b) =
        ap (λ d. agree plain (1 ∷ 2 ∷ 3 ∷ []) a (1 ∷ 2 ∷ 3 ∷ []) b && d) other ∙ right_true _ ∙ agree_three a b
        ∙ ap (λ f. f && (equal Binary (column a 2) (column b 2) && (equal Binary (column a 3) (column b 3) && true))) first
        ∙ ap₂ (λ f g. f && g) second (right_true _ ∙ third)
        ∙ sym (ap is_eq (by_parts a b) ∙ is_eq_both _ _) in
        sym whole ∙ clash

    pub no_ties : IsAscending (λ a b. is_eq (row_cmp a b) ≡ false) (filter (is_in table) (db 0))
    no_ties =
        let test = is_in table in
        let pairs = ascending_from_each (λ other row. Clash db cells unique other row ≡ false) (db 0) (db 0) (all_themselves (db 0)) (clashes_none db cells unique) in
        let fits = all_both IsCellRow (λ r. test r ≡ true) Fits (λ r p q. (p, q)) _ (all-filter IsCellRow test (db 0) cells.each) (filter_passes test (db 0)) in
        ascending_by Fits (λ a b. value_cmp (rowid a) (rowid b) ≡ Less) (λ a b. Clash db cells unique a b ≡ false) _ apart _ fits (ascending-filter _ test (db 0) cells.rise) (ascending-filter _ test (db 0) pairs)

    pub table_shown : (rows : List Row) → IsSureAnswer table_query (overlay db []) table_params rows → (map shown_entry rows ≡ entries_of table (db 0)) × AllByRecursion IsShownEntry rows
    table_shown rows answer =
        let a : IsAnswer table_query (overlay db []) table_params rows = answer Null in
        let mine = filter (is_in table) (db 0) in
        let kept : a.kept ≡ map out mine = a.distinct ∙ ap (map (output table_query)) (a.grouped ∙ matched db) ∙ map-map _ _ mine in
        let ordered = sorted_is-sort_by (output_cmp table_query) (output_cmp_total table_query) (map out mine) a.ordered
        (ascending-map (λ x y. is_eq (output_cmp table_query x y) ≡ false) out mine no_ties) (subst (λ k. IsPermutation k a.ordered) kept a.same) a.sorted in
        let rows_are : rows ≡ map shown_row (sort_by row_cmp mine) =
        a.shown ∙ ap (λ xs. page table_query table_params (map (λ (o : Output). o.1) xs)) (ordered ∙ sort_by-map (output_cmp table_query) out mine) ∙ map-map _ _ _ in
        let all = all-filter IsCellRow (is_in table) (db 0) cells.each in (
          ap (map _) rows_are ∙ map-map _ _ _ ∙ ap (map entry_in) (sort_same IsCellRow row_cmp (λ x y. entry_cmp (entry_in x) (entry_in y)) compares mine all) ∙ sym (sort_by-map entry_cmp entry_in mine),
          subst (AllByRecursion IsShownEntry) (sym rows_are) (all_map IsShownEntry shown_row _ (all_weaker IsCellRow _ (λ r h. record { key = h.key; column = h.column; value = h.value; is = ap shown_row h.is }) _ (all-sort IsCellRow row_cmp row_cmp (λ a b p q. refl) mine all))),
        )
