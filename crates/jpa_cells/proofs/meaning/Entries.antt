-- The entries of one key, among those of the table, are the cells of the row.
use Rattle.std.proofs.Common.{◌≡◌, ◌&&◌, ℕ, ℤ, Bool, true, false, cond, List, [], ◌∷◌, map, filter, refl, sym, ap, ◌∙◌, subst, Ordering, Less, Equal, Greater, is_eq, is_gt, nat_cmp, true≢false, IsPermutation}
use Rattle.std.specs.Cmp.{IsTotalOrder}
use Rattle.std.specs.Cmp.Lexicographic.{slice_cmp}
use Rattle.std.specs.Ordering.{ordering_then, ordering_reverse}
use Rattle.std.proofs.lemmas.Cmp.{nat_list_cmp_total, then_total, on_total}
use Rattle.std.proofs.lemmas.List.Sorted.{IsPermutation-map, IsPermutation-sym}
use Rattle.sqlite.specs.Order.{Row}
use Rattle.sqlite.specs.Tree.{Trees, IsAscending}
use Rattle.sqlite.specs.declared.types.Value.TheVariants.{Int, Blob}
use Rattle.sqlite_value.proofs.OrderLemmas.{value_cmp-Blob}
use Rattle.sqlite_schema.specs.Rules.{Keeps}
use Rattle.sqlite_schema.specs.declared.schema.Constraint.TheVariants.{Unique}
use Rattle.sqlite_keyed.proofs.ListLemmas.{all_weaker, all-filter, filter-map, map-map, ascending-map, ascending-filter, IsPermutation-filter}
use Rattle.sqlite_keyed.proofs.SortLemmas.{sorted_is-sort_by, IsPermutation-sort_by}
use Rattle.sqlite_exec.proofs.PartitionLemmas.{sorted_from_ascending}
use Rattle.jpa_cells.proofs.meaning.RowMeaning.{tie}
use Rattle.jpa_cells.specs.meaning.Schema.{cell_schema}
use Rattle.jpa_cells.specs.declared.meaning.Cell.{Cell}
use Rattle.jpa_cells.specs.meaning.Tables.{cell_cmp}
use Rattle.jpa_cells.specs.meaning.Content.{Entry, entry_cmp, is_in, is_of, entry_in, cell_in, entries_of, cells_of, loose_cells, IsCellRow, AreCells}
use Rattle.jpa_cells.proofs.meaning.ListFacts.{ascending_by, filter_passes}
use Rattle.jpa_cells.proofs.meaning.Sorts.{rises-sort}
use Rattle.jpa_cells.proofs.meaning.Edits.{filter_same_on}
use Rattle.jpa_cells.proofs.meaning.Contents.{cell_cmp_total, no_ties}
use Rattle.jpa_cells.proofs.meaning.TableMeaning as table_meaning

-- the entries of a key, and their cells
abbrev pub is_under : List ℕ → Entry → Bool
is_under key e = is_eq (slice_cmp nat_cmp e.0 key)

abbrev pub under : List ℕ → List Entry → List Cell
under key es = map (λ (e : Entry). e.1) (filter (is_under key) es)

first_less : (x y : Ordering) → ordering_then x y ≡ Less → is_eq x ≡ true → y ≡ Less
first_less Less y h e = absurd (true≢false (sym e))
first_less Equal y h e = h
first_less Greater y h e = absurd (true≢false (sym e))

same_key : (a b key : List ℕ) → is_eq (slice_cmp nat_cmp a key) ≡ true → is_eq (slice_cmp nat_cmp b key) ≡ true → is_eq (slice_cmp nat_cmp a b) ≡ true
same_key a b key p q = ap is_eq (nat_list_cmp_total.congr a key b (tie _ p) ∙ nat_list_cmp_total.antisymm key b ∙ ap ordering_reverse (tie _ q))

pub entry_cmp_total : IsTotalOrder entry_cmp
entry_cmp_total = then_total (on_total (λ e. e.0) nat_list_cmp_total) (on_total (λ e. e.1) cell_cmp_total)

filter_both : {X : Type 0} (p q : X → Bool) (xs : List X) → filter p (filter q xs) ≡ filter (λ x. q x && p x) xs
filter_both p q [] = refl
filter_both p q (x ∷ xs) =
    elim (q x) as (λ b. filter p (cond b (x ∷ filter q xs) (filter q xs)) ≡ cond (b && p x) (x ∷ filter (λ y. q y && p y) xs) (filter (λ y. q y && p y) xs))
    [ true ↦ ap (λ l. cond (p x) (x ∷ l) l) (filter_both p q xs) | false ↦ filter_both p q xs ]

module _ (db : Trees) (cells : AreCells (db 0)) (unique : Keeps Unique cell_schema db) (table : ℤ) where
  entries_apart : IsAscending (λ a b. is_eq (entry_cmp a b) ≡ false) (map entry_in (filter (is_in table) (db 0)))
  entries_apart =
      let all = all-filter IsCellRow (is_in table) (db 0) cells.each in
      let apart = table_meaning.no_ties table db cells unique in
      ascending-map (λ a b. is_eq (entry_cmp a b) ≡ false) entry_in _
      (ascending_by IsCellRow (λ a b. is_eq (table_meaning.row_cmp table a b) ≡ false) (λ a b. is_eq (table_meaning.row_cmp table a b) ≡ false) (λ a b. is_eq (entry_cmp (entry_in a) (entry_in b)) ≡ false)
      (λ a b p q h _. sym (ap is_eq (table_meaning.compares table a b p q)) ∙ h) _ all apart apart)

  pub entries_rise : IsAscending (λ a b. entry_cmp a b ≡ Less) (entries_of table (db 0))
  entries_rise = rises-sort entry_cmp entry_cmp_total _ entries_apart

  module _ (key : List ℕ) where
    belongs : (r : Row) → IsCellRow r → (is_in table r && is_under key (entry_in r)) ≡ is_of table key r
    belongs r h = subst (λ x. (is_in table x && is_under key (entry_in x)) ≡ is_of table key x) (sym h.is) (ap (λ o. is_in table (Int h.id ∷ Int h.table ∷ Blob h.key ∷ Int h.column ∷ Blob h.value ∷ []) && is_eq o) (sym (value_cmp-Blob h.key key)))

    loose : map (λ (e : Entry). e.1) (filter (is_under key) (map entry_in (filter (is_in table) (db 0)))) ≡ loose_cells table key (db 0)
    loose =
        ap (map (λ (e : Entry). e.1)) (filter-map (is_under key) entry_in _) ∙ map-map (λ (e : Entry). e.1) entry_in _
        ∙ ap (map cell_in) (filter_both (λ r. is_under key (entry_in r)) (is_in table) (db 0) ∙ filter_same_on _ (is_of table key) (db 0) (all_weaker IsCellRow _ belongs (db 0) cells.each))

    pub cells_under : under key (entries_of table (db 0)) ≡ cells_of table key (db 0)
    cells_under =
        let es = entries_of table (db 0) in
        let some = filter (is_under key) es in
        let same = IsPermutation-map (λ (e : Entry). e.1) _ _ (IsPermutation-filter (is_under key) _ _ (IsPermutation-sym _ _ (IsPermutation-sort_by entry_cmp entry_cmp_total (map entry_in (filter (is_in table) (db 0)))))) in
        let moved = subst (λ l. IsPermutation l (under key es)) loose same in
        let up = ascending-filter (λ a b. entry_cmp a b ≡ Less) (is_under key) es entries_rise in
        let rises = ascending_by (λ e. is_under key e ≡ true) (λ a b. entry_cmp a b ≡ Less) (λ a b. entry_cmp a b ≡ Less) (λ (a b : Entry). is_gt (cell_cmp a.1 b.1) ≡ false)
        (λ a b p q h _. ap is_gt (first_less _ _ h (same_key a.0 b.0 key p q))) some (filter_passes (is_under key) es) up up in
        let sorted = sorted_from_ascending cell_cmp cell_cmp_total (under key es) (ascending-map (λ (a b : Cell). is_gt (cell_cmp a b) ≡ false) (λ (e : Entry). e.1) some rises) in
        sorted_is-sort_by cell_cmp cell_cmp_total (loose_cells table key (db 0)) (under key es) (no_ties db cells unique table key) moved sorted
