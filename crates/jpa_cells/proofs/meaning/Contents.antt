-- What an INSERT and a DELETE make of the content.
use Rattle.std.proofs.Common.{◌≡◌, ℕ, ℤ, Bool, true, false, not, cond, List, [], ◌∷◌, map, filter, refl, sym, ap, ◌∙◌, subst, subst₂, Ordering, Less, Equal, Greater, is_eq, nat_cmp, int_cmp, true≢false, IsPermutation, inl, inr}
use Rattle.std.specs.List.{AllByRecursion, IsDistinct}
use Rattle.std.specs.Ordering.{ordering_reverse}
use Rattle.std.specs.Cmp.Lexicographic.{slice_cmp}
use Rattle.std.specs.FinMap.{nat_cmp-IsAntisymmetric, int_cmp-IsAntisymmetric, slice_cmp-IsAntisymmetric}
use Rattle.std.proofs.lemmas.Bool.{and_parts, and_from, cases_Bool}
use Rattle.std.proofs.lemmas.Cmp.{tied_itself, int_cmp_total, nat_list_cmp_total}
use Rattle.std.proofs.lemmas.List.Sorted.{IsPermutation-map, IsPermutation-sym}
use Rattle.std.proofs.lemmas.Map.Keys.{IsDistinct-IsPermutation}
use Rattle.sqlite.specs.declared.types.Value.TheVariants.{Int, Blob}
use Rattle.sqlite.specs.Order.{Row, column, value_cmp}
use Rattle.sqlite.specs.Tree.{Trees, IsAscending, put_row}
use Rattle.sqlite.specs.Edit.{is_taken}
use Rattle.sqlite_value.proofs.OrderLemmas.{value_cmp-Int}
use Rattle.sqlite_schema.specs.Rules.{Keeps}
use Rattle.sqlite_schema.specs.declared.schema.Constraint.TheVariants.{Unique}
use Rattle.sqlite_keyed.specs.Lists.{insert_sorted, sort_by}
use Rattle.sqlite_keyed.proofs.ListLemmas.{ascending-map, all-filter, IsPermutation-filter, all_weaker}
use Rattle.jpa_cells.specs.meaning.Schema.{cell_schema}
use Rattle.jpa_cells.specs.declared.meaning.Cell.{Cell}
use Rattle.jpa_cells.specs.meaning.Tables.{cell_cmp}
use Rattle.jpa_cells.specs.meaning.Content.{cell_in, is_of, is_same, loose_cells, cells_of, IsCellRow, AreCells, with_cell, without_cells}
use Rattle.jpa_cells.proofs.meaning.ListFacts.{ascending_by}
use Rattle.jpa_cells.proofs.meaning.RowMeaning.{tie, columns_differ}
use Rattle.jpa_cells.proofs.meaning.Sorts.{sort_permuted}
use Rattle.jpa_cells.proofs.meaning.Edits.{put_permutes, is_of_new}
use Rattle.std.specs.Cmp.{IsTotalOrder}

pub cell_cmp_total : IsTotalOrder cell_cmp
cell_cmp_total = record {
  antisymm = λ a b. int_cmp_total.antisymm a.column b.column;
  trans = λ a b c. int_cmp_total.trans a.column b.column c.column;
  congr = λ a b c. int_cmp_total.congr a.column b.column c.column;
}

pub turned : (o : Ordering) → is_eq (ordering_reverse o) ≡ is_eq o
turned Less = refl
turned Equal = refl
turned Greater = refl

pub same_keys : (table : ℤ) (key : List ℕ) (t : ℤ) (k : List ℕ) → is_same table key t k ≡ true → (table ≡ t) × (key ≡ k)
same_keys table key t k h =
    let parts = and_parts (is_eq (int_cmp table t)) (is_eq (slice_cmp nat_cmp key k)) h in
    (int_cmp-IsAntisymmetric table t (tie _ parts.0), slice_cmp-IsAntisymmetric nat_cmp-IsAntisymmetric key k (tie _ parts.1))

pub same_itself : (table : ℤ) (key : List ℕ) → is_same table key table key ≡ true
same_itself table key = and_from _ _ (ap is_eq (tied_itself int_cmp_total table)) (ap is_eq (tied_itself nat_list_cmp_total key))

abbrev pub NoTies : List Cell → Type 0
NoTies = IsAscending (λ a b. is_eq (cell_cmp a b) ≡ false)

pub ties_permuted : (xs ys : List Cell) → IsPermutation xs ys → NoTies xs → NoTies ys
unfolding IsDistinct
ties_permuted xs ys same apart = IsDistinct-IsPermutation (λ a b. is_eq (cell_cmp a b)) (λ a b. sym (ap is_eq (cell_cmp_total.antisymm b a) ∙ turned (cell_cmp a b))) xs ys same apart

module _ (db : Trees) (cells : AreCells (db 0)) (unique : Keeps Unique cell_schema db) where
  pub no_ties : (t : ℤ) (k : List ℕ) → NoTies (loose_cells t k (db 0))
  no_ties t k =
      let mine = filter (is_of t k) (db 0) in
      let each = all-filter IsCellRow (is_of t k) (db 0) cells.each in
      let differ = columns_differ db cells unique t k in
      ascending-map (λ a b. is_eq (cell_cmp a b) ≡ false) cell_in mine
      (ascending_by IsCellRow (λ a b. is_eq (value_cmp (column a 3) (column b 3)) ≡ false) (λ a b. is_eq (value_cmp (column a 3) (column b 3)) ≡ false) (λ a b. is_eq (cell_cmp (cell_in a) (cell_in b)) ≡ false)
      apart mine each differ differ)
    where
      apart : (a b : Row) → IsCellRow a → IsCellRow b → is_eq (value_cmp (column a 3) (column b 3)) ≡ false → is_eq (value_cmp (column a 3) (column b 3)) ≡ false → is_eq (cell_cmp (cell_in a) (cell_in b)) ≡ false
      apart a b p q h _ = go a b p.is q.is h
        where
          go : (x y : Row) → x ≡ Int p.id ∷ Int p.table ∷ Blob p.key ∷ Int p.column ∷ Blob p.value ∷ [] → y ≡ Int q.id ∷ Int q.table ∷ Blob q.key ∷ Int q.column ∷ Blob q.value ∷ []
              → is_eq (value_cmp (column x 3) (column y 3)) ≡ false → is_eq (cell_cmp (cell_in x) (cell_in y)) ≡ false
          go x y e f = subst₂ (λ v w. is_eq (value_cmp (column v 3) (column w 3)) ≡ false → is_eq (cell_cmp (cell_in v) (cell_in w)) ≡ false) (sym e) (sym f)
              (λ d. sym (ap is_eq (value_cmp-Int p.column q.column)) ∙ d)

-- ---- a cell is added

module _ (id table : ℤ) (key : List ℕ) (column : ℤ) (value : List ℕ) where
  abbrev pub new_row : Row
  new_row = Int id ∷ Int table ∷ Blob key ∷ Int column ∷ Blob value ∷ []

  pub cell_added : (db next : Trees) → next 0 ≡ put_row new_row (db 0) → is_taken (db 0) new_row ≡ false → AreCells (next 0) → Keeps Unique cell_schema next
      → (t : ℤ) (k : List ℕ) → cells_of t k (next 0) ≡ with_cell table key (record { column = column; value = value }) (λ t k. cells_of t k (db 0)) t k
  cell_added db next is free cells unique t k =
      let rows = db 0 in
      let moved = IsPermutation-map cell_in _ _ (IsPermutation-filter (is_of t k) _ _ (put_permutes new_row rows free)) in
      let here = subst (λ l. IsPermutation (map cell_in (filter (is_of t k) (new_row ∷ rows))) (loose_cells t k l)) (sym is) moved in
      let after = no_ties next cells unique t k in
      let before = ties_permuted _ _ (IsPermutation-sym _ _ here) after in
      sym (sort_permuted cell_cmp cell_cmp_total _ _ before after here)
      ∙ ap (λ b. sort_by cell_cmp (map cell_in (cond b (new_row ∷ filter (is_of t k) rows) (filter (is_of t k) rows)))) (is_of_new id table key column value t k)
      ∙ go (is_same table key t k)
    where
      go : (b : Bool) → sort_by cell_cmp (map cell_in (cond b (new_row ∷ filter (is_of t k) (db 0)) (filter (is_of t k) (db 0)))) ≡ cond b (insert_sorted cell_cmp (record { column = column; value = value }) (cells_of t k (db 0))) (cells_of t k (db 0))
      go true = refl
      go false = refl

-- ---- a row is dropped

belongs : (r : Row) (h : IsCellRow r) (t : ℤ) (k : List ℕ) → is_of t k r ≡ is_same h.table h.key t k
belongs r h t k = subst (λ x. is_of t k x ≡ is_same h.table h.key t k) (sym h.is) (is_of_new h.id h.table h.key h.column h.value t k)

module _ {X : Type 0} where
  filter_after : (p q : X → Bool) (xs : List X) → AllByRecursion (λ x. p x ≡ true → q x ≡ true) xs → filter p (filter q xs) ≡ filter p xs
  filter_after p q [] all = refl
  filter_after p q (x ∷ xs) all = go (p x) (q x) refl all.0 (filter_after p q xs all.1)
    where
      go : (a b : Bool) → p x ≡ a → (a ≡ true → b ≡ true) → filter p (filter q xs) ≡ filter p xs → filter p (cond b (x ∷ filter q xs) (filter q xs)) ≡ cond a (x ∷ filter p xs) (filter p xs)
      go true true e f more = ap (λ c. cond c (x ∷ filter p (filter q xs)) (filter p (filter q xs))) e ∙ ap (λ l. x ∷ l) more
      go true false e f more = absurd (true≢false (sym (f refl)))
      go false true e f more = ap (λ c. cond c (x ∷ filter p (filter q xs)) (filter p (filter q xs))) e ∙ more
      go false false e f more = more

  filter_apart : (p : X → Bool) (xs : List X) → filter p (filter (λ x. not (p x)) xs) ≡ []
  filter_apart p [] = refl
  filter_apart p (x ∷ xs) = go (p x) refl (filter_apart p xs)
    where
      go : (a : Bool) → p x ≡ a → filter p (filter (λ y. not (p y)) xs) ≡ [] → filter p (cond (not a) (x ∷ filter (λ y. not (p y)) xs) (filter (λ y. not (p y)) xs)) ≡ []
      go true e more = more
      go false e more = ap (λ c. cond c (x ∷ filter p (filter (λ y. not (p y)) xs)) (filter p (filter (λ y. not (p y)) xs))) e ∙ more

pub row_dropped : (table : ℤ) (key : List ℕ) (rows : List Row) → AreCells rows → (t : ℤ) (k : List ℕ)
    → cells_of t k (filter (λ r. not (is_of table key r)) rows) ≡ without_cells table key (λ t k. cells_of t k rows) t k
row_dropped table key rows cells t k = go (is_same table key t k) refl
  where
    go : (b : Bool) → is_same table key t k ≡ b → cells_of t k (filter (λ r. not (is_of table key r)) rows) ≡ cond b [] (cells_of t k rows)
    go true e =
        let same = same_keys table key t k e in
        ap (λ l. sort_by cell_cmp (map cell_in l)) (subst₂ (λ a b. filter (is_of a b) (filter (λ r. not (is_of table key r)) rows) ≡ []) same.0 same.1 (filter_apart (is_of table key) rows))
    go false e = ap (λ l. sort_by cell_cmp (map cell_in l)) (filter_after (is_of t k) (λ r. not (is_of table key r)) rows (all_weaker IsCellRow _ (λ r h p. ap not (other r h p)) rows cells.each))
      where
        other : (r : Row) → IsCellRow r → is_of t k r ≡ true → is_of table key r ≡ false
        other r h p = elim (cases_Bool (is_of table key r)) [
          | inr fails ↦ fails
          | inl holds ↦
              let one = same_keys h.table h.key t k (sym (belongs r h t k) ∙ p) in
              let two = same_keys h.table h.key table key (sym (belongs r h table key) ∙ holds) in
              absurd (true≢false (sym (subst₂ (λ a b. is_same a b t k ≡ true) two.0 two.1 (subst₂ (λ a b. is_same h.table h.key a b ≡ true) one.0 one.1 (same_itself h.table h.key))) ∙ e))
        ]
