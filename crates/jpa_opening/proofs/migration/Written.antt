-- Law: what is written makes of the tables those that were migrated, in whatever order of the tables.
use Rattle.std.specs.Prelude.{◌≡◌, ℕ, ℤ, pos, negsuc, Bool, true, false, cond, not, ◌==◌, List, [], ◌∷◌, ◌++◌, map, Option, Some, None}
use Rattle.std.proofs.Common.{refl, sym, ap, subst, ◌∙◌, inl, inr, IsPermutation, Less, Equal, Greater, arith}
use Rattle.std.specs.List.{flat_map, list_any, AllByRecursion, IsDistinct}
use Rattle.std.specs.declared.cmp.Ordering.{Ordering}
use Rattle.std.specs.Ordering.{int_eq, int_cmp, is_eq, match_ordering}
use Rattle.std.proofs.lemmas.List.{append_assoc}
use Rattle.std.proofs.lemmas.List.Sorted.{Contains-permutation, IsPermutation-sym}
use Rattle.std.proofs.lemmas.Bool.Decides.{Decides-int_eq, nat_tests}
use Rattle.std.proofs.lemmas.Map.Keys.{IsDistinct-IsPermutation}
use Rattle.sqlite.specs.Tree.{IsAscending}
use Rattle.sqlite_keyed.proofs.ListLemmas.{none_from_any}
use Rattle.jpa_model.specs.declared.unit.Entity.{Entity}
use Rattle.jpa_model.specs.declared.unit.Origin.{Origin}
use Rattle.jpa_model.specs.Chains.{entity_at}
use Rattle.jpa_model.specs.Kept.{IsDescribed}
use Rattle.jpa_behaviour.specs.Behaviour.{World}
use Rattle.jpa_description.specs.declared.history.history.History.{History}
use Rattle.jpa_rows.proofs.laws.Facts.{and_first, and_second, true_false}
use Rattle.jpa_rows.proofs.laws.Elements.{Has, append_has, into_flat_map, has_from_contains, contains_from_has}
use Rattle.jpa_rows.proofs.laws.Lists.{any_has, has_any}
use Rattle.jpa_rows.specs.rows.Cells.{root_tables, join_tables, tables_of}
use Rattle.jpa_rows.specs.rows.Tables.{classes}
use Rattle.jpa_cells.specs.declared.meaning.Cell.{Cell}
use Rattle.jpa_cells.specs.declared.meaning.CellRow.{CellRow}
use Rattle.jpa_cells.specs.declared.meaning.CellChange.{CellChange}
use Rattle.jpa_cells.specs.meaning.Tables.{Tables, AreRows, row_of, with_row, key_cmp, cell_cmp, placed, rows_after, changed, tables_after}
use Rattle.jpa_cells.proofs.meaning.Rows.{itself}
use Rattle.jpa_cells.proofs.meaning.Placing.{placed_rising}
use Rattle.jpa_object_rows.specs.meaning.Unambiguous.{is_class, are_distinct_numbers}
use Rattle.jpa_object_rows.proofs.meaning.Bytes.Orders.{are_same_numbers, same_number}
use Rattle.jpa_object_rows.proofs.meaning.Bytes.Classes.{find_some, class_within, has_entity}
use Rattle.jpa_object_rows.proofs.meaning.Bytes.Described.{described_mapped}
use Rattle.jpa_opening.specs.migration.Migration as migration
use Rattle.jpa_opening.proofs.migration.Differing.{same_are}
use Rattle.jpa_opening.proofs.migration.RowColumns.{after_rises}
use Rattle.jpa_opening.proofs.migration.Laws.{root_within}

abbrev Rise : List CellRow → Type 0
Rise = IsAscending (λ (a b : CellRow). key_cmp a.row b.row ≡ Less)

abbrev Columns : List Cell → Type 0
Columns = IsAscending (λ (a b : Cell). cell_cmp a b ≡ Less)

-- ---- a row in the place of the one that has its bytes

all_before : (P : CellRow → Type 0) (done : List CellRow) (r : CellRow) (rest : List CellRow) → AllByRecursion P (done ++ r ∷ rest) → P r
all_before P [] r rest h = h.0
all_before P (d ∷ done) r rest h = all_before P done r rest h.1

equal_if : (o : Ordering) → is_eq o ≡ true → o ≡ Equal
equal_if Less h = cc
equal_if Equal h = refl
equal_if Greater h = cc

replaced : (new : CellRow) (done : List CellRow) (r : CellRow) (rest : List CellRow) → Rise (done ++ r ∷ rest) → r.row ≡ new.row → with_row new (done ++ r ∷ rest) ≡ done ++ new ∷ rest
replaced new [] r rest up same =
    ap (λ o. match_ordering o (r ∷ with_row new rest) (new ∷ rest) (new ∷ r ∷ rest)) (equal_if (key_cmp r.row new.row) (subst (λ (key : List ℕ). is_eq (key_cmp r.row key) ≡ true) same (itself r.row)))
replaced new (d ∷ done) r rest up same =
    let less : key_cmp d.row new.row ≡ Less = subst (λ (k : List ℕ). key_cmp d.row k ≡ Less) same (all_before (λ (x : CellRow). key_cmp d.row x.row ≡ Less) done r rest up.0) in
    ap (λ o. match_ordering o (d ∷ with_row new (done ++ r ∷ rest)) (new ∷ done ++ r ∷ rest) (new ∷ d ∷ done ++ r ∷ rest)) less
    ∙ ap (λ l. d ∷ l) (replaced new done r rest up.1 same)

-- the rows rise as before
put_all : (P : CellRow → Type 0) (new : CellRow) (done : List CellRow) (r : CellRow) (rest : List CellRow) → (P r → P new) → AllByRecursion P (done ++ r ∷ rest) → AllByRecursion P (done ++ new ∷ rest)
put_all P new [] r rest k h = (k h.0, h.1)
put_all P new (d ∷ done) r rest k h = (h.0, put_all P new done r rest k h.1)

rises : (new : CellRow) (done : List CellRow) (r : CellRow) (rest : List CellRow) → r.row ≡ new.row → Rise (done ++ r ∷ rest) → Rise (done ++ new ∷ rest)
rises new [] r rest same up = (subst (λ (k : List ℕ). AllByRecursion (λ (x : CellRow). key_cmp k x.row ≡ Less) rest) same up.0, up.1)
rises new (d ∷ done) r rest same up =
    (put_all (λ (x : CellRow). key_cmp d.row x.row ≡ Less) new done r rest (λ h. subst (λ (k : List ℕ). key_cmp d.row k ≡ Less) same h) up.0, rises new done r rest same up.1)

put_is : (key : List ℕ) (cells : List Cell) (rows : List CellRow) → rows_after key (migration.readable cells) rows ≡ with_row (row_of key (placed (migration.readable cells))) rows
put_is key [] rows = refl
put_is key (c ∷ cells) rows = refl

own_table : (table : ℤ) → is_eq (int_cmp table table) ≡ true
own_table table = (Decides-int_eq table table).1 refl

-- ---- the changes of a root's table

module _ (world : World) (h : History) (table : ℤ) (root : ℕ) where
  abbrev after : CellRow → List Cell
  after r = migration.cells_after world h root r.cells

  abbrev moved : CellRow → CellRow
  moved = migration.row_after world h root

  abbrev changes : List CellRow → List CellChange
  changes = flat_map (migration.change_if world h table root)

  pub written : (rest done : List CellRow) (tables : Tables) → tables table ≡ done ++ rest → Rise (done ++ rest) → AllByRecursion (λ r. Columns (after r)) rest
      → tables_after (changes rest) tables table ≡ done ++ map moved rest
  written [] done tables e up columns = e
  written (r ∷ rest) done tables e up columns = by (λ done tables e up. written rest done tables e up columns.1) (migration.same_cells r.cells (after r)) refl
    where
      change : CellChange
      change = record { table = table; row = r.row; cells = after r }

      by : ((done : List CellRow) (tables : Tables) → tables table ≡ done ++ rest → Rise (done ++ rest) → tables_after (changes rest) tables table ≡ done ++ map moved rest)
          → (b : Bool) → migration.same_cells r.cells (after r) ≡ b → tables_after (cond b [] (change ∷ []) ++ changes rest) tables table ≡ done ++ moved r ∷ map moved rest
      by go true same =
          let is : r ≡ moved r = λ i. row_of r.row (same_are r.cells (after r) same i) in
          go (done ++ r ∷ []) tables (e ∙ sym (append_assoc done (r ∷ []) rest)) (subst Rise (sym (append_assoc done (r ∷ []) rest)) up)
          ∙ append_assoc done (r ∷ []) (map moved rest)
          ∙ ap (λ (x : CellRow). done ++ x ∷ map moved rest) is
      by go false other =
          let now : changed change tables table ≡ done ++ moved r ∷ rest =
          ap (λ b. cond b (rows_after r.row (after r) (tables table)) (tables table)) (own_table table)
          ∙ ap (rows_after r.row (after r)) e
          ∙ put_is r.row _ (done ++ r ∷ rest)
          ∙ ap (λ cells. with_row (row_of r.row cells) (done ++ r ∷ rest)) (placed_rising (after r) columns.0)
          ∙ replaced (moved r) done r rest up refl in
          go (done ++ moved r ∷ []) (changed change tables) (now ∙ sym (append_assoc done (moved r ∷ []) rest))
          (subst Rise (sym (append_assoc done (moved r ∷ []) rest)) (rises (moved r) done r rest refl up))
          ∙ append_assoc done (moved r ∷ []) (map moved rest)

-- ---- the changes of one table

module _ (world : World) (described : IsDescribed world.model) (h : History) where
  columns_after : (root : ℕ) → is_class world.model root ≡ true → (rows : List CellRow) → AllByRecursion (λ (r : CellRow). Columns r.cells) rows
      → AllByRecursion (λ (r : CellRow). Columns (migration.cells_after world h root r.cells)) rows
  columns_after root within [] up = tt
  columns_after root within (r ∷ rows) up = (after_rises world described h root within r.cells up.0, columns_after root within rows up.1)

  one_table : (table : ℤ) (rows : List CellRow) → AreRows rows → (tables : Tables) → tables table ≡ rows
      → tables_after (migration.changes_made world h table rows) tables table ≡ migration.rows_migrated world h table rows
  one_table table rows are tables e = by (int_eq table (pos 0)) refl (migration.root_with world.model table) refl
    where
      by : (b : Bool) → int_eq table (pos 0) ≡ b → (o : Option ℕ) → migration.root_with world.model table ≡ o
          → tables_after (cond b (migration.revision_change ∷ []) (migration.changes_by world h table o rows)) tables table ≡ cond b (with_row migration.revision_row rows) (migration.rows_by world h o rows)
      by true zero o found =
          let same : table ≡ pos 0 = (Decides-int_eq table (pos 0)).0 zero in
          ap (λ b. cond b (with_row migration.revision_row (tables table)) (tables table)) ((Decides-int_eq (pos 0) table).1 (sym same)) ∙ ap (with_row migration.revision_row) e
      by false other None found = e
      by false other (Some root) found = written world h table root rows [] tables e are.rise (columns_after root (root_within world described h table root found) rows are.columns)

  -- ---- other tables stay

  others_stay : (changes : List CellChange) (tables : Tables) (t : ℤ) → AllByRecursion (λ (c : CellChange). c.table ≡ t → ⊥) changes → tables_after changes tables t ≡ tables t
  others_stay [] tables t apart = refl
  others_stay (c ∷ changes) tables t apart =
      others_stay changes (changed c tables) t apart.1 ∙ ap (λ b. cond b (rows_after c.row c.cells (tables t)) (tables t)) (differ (is_eq (int_cmp c.table t)) refl)
    where
      differ : (b : Bool) → is_eq (int_cmp c.table t) ≡ b → is_eq (int_cmp c.table t) ≡ false
      differ true e = absurd (apart.0 ((Decides-int_eq c.table t).0 e))
      differ false e = e

  of_rows : (table : ℤ) (root : ℕ) (t : ℤ) → (table ≡ t → ⊥) → (rows : List CellRow) → AllByRecursion (λ (c : CellChange). c.table ≡ t → ⊥) (flat_map (migration.change_if world h table root) rows)
  of_rows table root t apart [] = tt
  of_rows table root t apart (r ∷ rows) = by (migration.same_cells r.cells (migration.cells_after world h root r.cells)) (of_rows table root t apart rows)
    where
      by : (b : Bool) → AllByRecursion (λ (c : CellChange). c.table ≡ t → ⊥) (flat_map (migration.change_if world h table root) rows)
          → AllByRecursion (λ (c : CellChange). c.table ≡ t → ⊥)
          (cond b [] (record { table = table; row = r.row; cells = migration.cells_after world h root r.cells } ∷ []) ++ flat_map (migration.change_if world h table root) rows)
      by true rest = rest
      by false rest = (apart, rest)

  of_table : (table : ℤ) (rows : List CellRow) (t : ℤ) → (table ≡ t → ⊥) → AllByRecursion (λ (c : CellChange). c.table ≡ t → ⊥) (migration.changes_made world h table rows)
  of_table table rows t apart = by (int_eq table (pos 0)) refl (migration.root_with world.model table)
    where
      by : (b : Bool) → int_eq table (pos 0) ≡ b → (o : Option ℕ) → AllByRecursion (λ (c : CellChange). c.table ≡ t → ⊥) (cond b (migration.revision_change ∷ []) (migration.changes_by world h table o rows))
      by true zero o = ((λ e. apart ((Decides-int_eq table (pos 0)).0 zero ∙ e)), tt)
      by false other None = tt
      by false other (Some root) = of_rows table root t apart rows

  -- ---- several tables, each once

  abbrev made : Tables → ℕ → List CellChange
  made tables n = migration.changes_made world h (pos n) (tables (pos n))

  after-append : (xs ys : List CellChange) (tables : Tables) → tables_after (xs ++ ys) tables ≡ tables_after ys (tables_after xs tables)
  after-append [] ys tables = refl
  after-append (x ∷ xs) ys tables = after-append xs ys (changed x tables)

  abbrev Apart : List ℕ → Type 0
  Apart = IsAscending (λ (a b : ℕ). (a == b) ≡ false)

  apart_from : (n : ℕ) (ns : List ℕ) → AllByRecursion (λ b. (n == b) ≡ false) ns → Has ns n → ⊥
  apart_from n [] all k = k
  apart_from n (m ∷ ns) all (inl e) = true_false (sym (same_number n) ∙ ap (λ k. n == k) (sym e) ∙ all.0)
  apart_from n (m ∷ ns) all (inr k) = apart_from n ns all.1 k

  same_natural : (a b : ℕ) → pos a ≡ pos b → a ≡ b
  same_natural a b e = cc

  untouched : (found : Tables) (ns : List ℕ) (tables : Tables) (t : ℤ) → ((n : ℕ) → Has ns n → pos n ≡ t → ⊥) → tables_after (flat_map (made found) ns) tables t ≡ tables t
  untouched found [] tables t apart = refl
  untouched found (n ∷ ns) tables t apart =
      ap (λ (f : Tables). f t) (after-append (made found n) (flat_map (made found) ns) tables)
      ∙ untouched found ns (tables_after (made found n) tables) t (λ k j. apart k (inr j))
      ∙ others_stay (made found n) tables t (of_table (pos n) (found (pos n)) t (apart n (inl refl)))

  each_table : (found : Tables) (ns : List ℕ) → Apart ns → ((n : ℕ) → Has ns n → AreRows (found (pos n))) → (tables : Tables) → ((n : ℕ) → Has ns n → tables (pos n) ≡ found (pos n))
      → (n : ℕ) → Has ns n → tables_after (flat_map (made found) ns) tables (pos n) ≡ migration.rows_migrated world h (pos n) (found (pos n))
  each_table found [] apart are tables same n k = absurd k
  each_table found (m ∷ ns) apart are tables same n (inl e) =
      subst (λ (n : ℕ). tables_after (flat_map (made found) (m ∷ ns)) tables (pos n) ≡ migration.rows_migrated world h (pos n) (found (pos n))) e
      (ap (λ (f : Tables). f (pos m)) (after-append (made found m) (flat_map (made found) ns) tables)
      ∙ untouched found ns (tables_after (made found m) tables) (pos m) (λ k j f. apart_from m ns apart.0 (subst (Has ns) (same_natural k m f) j))
      ∙ one_table (pos m) (found (pos m)) (are m (inl refl)) tables (same m (inl refl)))
  each_table found (m ∷ ns) apart are tables same n (inr k) =
      ap (λ (f : Tables). f (pos n)) (after-append (made found m) (flat_map (made found) ns) tables)
      ∙ each_table found ns apart.1 (λ j i. are j (inr i)) (tables_after (made found m) tables)
      (λ j i. others_stay (made found m) tables (pos j) (of_table (pos m) (found (pos m)) (pos j) (λ f. apart_from m ns apart.0 (subst (Has ns) (sym (same_natural m j f)) i))) ∙ same j (inr i)) n k

  -- ---- tables that are none of the unit's stay

  stays : (t : ℤ) (rows : List CellRow) → ((n : ℕ) → Has (tables_of world.model) n → pos n ≡ t → ⊥) → rows ≡ migration.rows_migrated world h t rows
  stays t rows apart = by (int_eq t (pos 0)) refl (migration.root_with world.model t) refl
    where
      of_root : (root : ℕ) → migration.root_with world.model t ≡ Some root → ⊥
      of_root root found = go (entity_at world.model root).origin refl r.1
        where
          r : Has (classes world.model) root × (migration.has_table t (entity_at world.model root).origin ≡ true)
          r = find_some (λ class. migration.has_table t (entity_at world.model class).origin) (classes world.model) root found

          go : (o : Origin) → o ≡ (entity_at world.model root).origin → migration.has_table t o ≡ true → ⊥
          go (Origin.Extends parent) e test = true_false (sym test)
          go (Origin.Root s) e test =
              let own = λ (e : Entity). root_tables e.origin ++ flat_map (λ r. join_tables r.side) e.relations in
              apart s.table
              (inr (into_flat_map own (world.model).entities (entity_at world.model root) s.table (has_entity world.model root (class_within world.model root r.0))
              (append_has (root_tables (entity_at world.model root).origin) (flat_map (λ r. join_tables r.side) (entity_at world.model root).relations) s.table
              (inl (subst (λ (o : Origin). Has (root_tables o) s.table) e (inl refl))))))
              ((Decides-int_eq (pos s.table) t).0 test)

      by : (b : Bool) → int_eq t (pos 0) ≡ b → (o : Option ℕ) → migration.root_with world.model t ≡ o → rows ≡ cond b (with_row migration.revision_row rows) (migration.rows_by world h o rows)
      by true zero o found = absurd (apart 0 (inl refl) (sym ((Decides-int_eq t (pos 0)).0 zero)))
      by false other None found = refl
      by false other (Some root) found = absurd (of_root root found)

not_any : (b : Bool) → not b ≡ true → b ≡ false
not_any true h = cc
not_any false h = refl

same_test : (a b : ℕ) → (a == b) ≡ (b == a)
same_test a b = grind (arith, nat_tests)

distinct_apart : (ns : List ℕ) → are_distinct_numbers ns ≡ true → IsDistinct ◌==◌ ns
unfolding IsDistinct
distinct_apart [] h = tt
distinct_apart (n ∷ ns) h = (none_from_any (λ b. n == b) ns (not_any _ (and_first (not (list_any (λ b. n == b) ns)) _ h)), distinct_apart ns (and_second (not (list_any (λ b. n == b) ns)) _ h))

apart_numbers : (ns : List ℕ) → IsDistinct ◌==◌ ns → IsAscending (λ (a b : ℕ). (a == b) ≡ false) ns
unfolding IsDistinct
apart_numbers [] h = tt
apart_numbers (n ∷ ns) h = (h.0, apart_numbers ns h.1)

-- what is written of all tables, in any order, makes them those that were migrated
pub migrated_tables : (world : World) → IsDescribed world.model → (h : History) (tables : Tables) → ((n : ℕ) → Has (tables_of world.model) n → AreRows (tables (pos n))) → (numbers : List ℕ)
    → IsPermutation (tables_of world.model) numbers
    → tables_after (flat_map (λ t. migration.changes_made world h (pos t) (tables (pos t))) numbers) tables ≡ (λ t. migration.rows_migrated world h t (tables t))
migrated_tables world described h tables are numbers same = λ i t. each t i
  where
    apart : IsAscending (λ (a b : ℕ). (a == b) ≡ false) numbers
    apart = apart_numbers numbers (IsDistinct-IsPermutation ◌==◌ same_test (tables_of world.model) numbers same (distinct_apart (tables_of world.model) (described_mapped world.model described).tables))

    here : (n : ℕ) → Has numbers n → Has (tables_of world.model) n
    here n k = has_from_contains (tables_of world.model) n (Contains-permutation numbers (tables_of world.model) n (IsPermutation-sym (tables_of world.model) numbers same) (contains_from_has numbers n k))

    there : (n : ℕ) → Has (tables_of world.model) n → Has numbers n
    there n k = has_from_contains numbers n (Contains-permutation (tables_of world.model) numbers n same (contains_from_has (tables_of world.model) n k))

    other : (t : ℤ) → ((n : ℕ) → Has numbers n → pos n ≡ t → ⊥) → tables_after (flat_map (made world described h tables) numbers) tables t ≡ migration.rows_migrated world h t (tables t)
    other t none = untouched world described h tables numbers tables t none ∙ stays world described h t (tables t) (λ n k e. none n (there n k) e)

    natural : (n : ℕ) (b : Bool) → list_any (λ k. k == n) numbers ≡ b → tables_after (flat_map (made world described h tables) numbers) tables (pos n) ≡ migration.rows_migrated world h (pos n) (tables (pos n))
    natural n true e =
        let r = any_has (λ k. k == n) numbers e in
        each_table world described h tables numbers apart (λ k j. are k (here k j)) tables (λ k j. refl) n (subst (Has numbers) (are_same_numbers r.0 n r.2) r.1)
    natural n false e = other (pos n) (λ k j f. true_false (sym (has_any (λ k. k == n) numbers k j (ap (λ m. m == n) (same_natural world described h k n f) ∙ same_number n)) ∙ e))

    each : (t : ℤ) → tables_after (flat_map (made world described h tables) numbers) tables t ≡ migration.rows_migrated world h t (tables t)
    each (pos n) = natural n (list_any (λ k. k == n) numbers) refl
    each (negsuc n) = other (negsuc n) (λ k j e. cc)
