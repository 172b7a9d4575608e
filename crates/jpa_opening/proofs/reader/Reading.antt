-- One table after another: what is read so far, and of the tables as far as they were read.
use Rattle.std.specs.Prelude.{◌≡◌, ℕ, pos, negsuc, ◌<◌, true, false, cond, ◌==◌, List, [], ◌∷◌, ◌++◌, Option, Some, None, is_some, IsSome}
use Rattle.std.proofs.Common.{refl, sym, ap, subst, ◌∙◌, arith, inl, inr}
use Rattle.std.specs.List.{AllByRecursion, list_any}
use Rattle.sqlite_trees.specs.Tree.{IsAscending}
use Rattle.jpa_rows.specs.declared.rows.schema.Schema.{Schema}
use Rattle.jpa_rows.specs.declared.rows.schema.TableRule.{TableRule}
use Rattle.jpa_rows.specs.rows.Rows.{RowId, Row, Rows, AreRising, table_of, table_rows}
use Rattle.jpa_rows.proofs.laws.Facts.{true_false}
use Rattle.jpa_rows.proofs.laws.Elements.{Has, append_has, has_append}
use Rattle.jpa_rows.proofs.laws.Lists.{all_each, all_from, any_has, has_any}
use Rattle.jpa_object_rows.proofs.meaning.Bytes.Orders.{are_same_numbers}
use Rattle.jpa_cells.specs.declared.meaning.CellRow.{CellRow}
use Rattle.jpa_cells.specs.meaning.Tables.{Tables, key_cmp, AreRows}
use Rattle.jpa_cells.specs.rowspace.Reading.{AreEntries, IsReadBy}
use Rattle.jpa_cells.proofs.rowspace.Ids.{numbered}
use Rattle.jpa_opening.specs.reader.Reads.{IsRising, AreNumbersOf, AreReadWhole, AreReadInto}
use Rattle.jpa_rows.proofs.rows.Splits.{all_then}
use Rattle.jpa_opening.proofs.reader.Parts.{all_append, all_front, append_nil, same_number, apart_number, rows_append, own_rows, no_rows, rise_after}

-- ---- rows of cells

pub own_table : (rule : TableRule) (stored : List CellRow) (es : Rows) → AreEntries rule stored es → AllByRecursion (λ e. (e.0).table ≡ rule.table) es
own_table rule [] [] h = tt
own_table rule [] (e ∷ es) h = absurd h
own_table rule (r ∷ stored) [] h = absurd h
own_table rule (r ∷ stored) (e ∷ es) h = (((h.0 e).0 refl).own, own_table rule stored es h.1)

-- ---- the next table

module _ (schema : Schema) (tables : Tables) (ns : List ℕ) (rows : Rows) (h : AreReadWhole schema tables ns rows) (n : ℕ) (up : AllByRecursion (λ m. m < n) ns) where
  lower_row : (e : RowId × Row) → Has rows e → (e.0).table < n
  lower_row e k =
      let r = any_has (λ m. m == (e.0).table) ns (all_each (λ (d : RowId × Row). list_any (λ m. m == (d.0).table) ns ≡ true) rows h.within e k) in
      subst (λ m. m < n) (are_same_numbers r.0 (e.0).table r.2) (all_each (λ m. m < n) ns up r.0 r.1)

  pub lower : AllByRecursion (λ e. (e.0).table < n) rows
  lower = all_from (λ (e : RowId × Row). (e.0).table < n) rows lower_row

  none_own : table_rows n rows ≡ []
  none_own = no_rows n rows (all_then (λ (e : RowId × Row). (e.0).table < n) (λ e. (e.0).table ≡ n → ⊥) (λ e less same. omega arith) rows lower)

  module _ (part : Rows) (own : AllByRecursion (λ e. (e.0).table ≡ n) part) where
    pub new_rows : table_rows n (rows ++ part) ≡ part
    new_rows = rows_append n rows part ∙ (λ i. none_own i ++ own_rows n part own i)

    pub old_rows : (u : ℕ) → (u ≡ n → ⊥) → table_rows u (rows ++ part) ≡ table_rows u rows
    old_rows u apart =
        rows_append u rows part
        ∙ ap (λ l. table_rows u rows ++ l) (no_rows u part (all_then (λ (e : RowId × Row). (e.0).table ≡ n) (λ e. (e.0).table ≡ u → ⊥) (λ e a b. apart (sym b ∙ a)) part own))
        ∙ append_nil (table_rows u rows)

    pub rises : AreRising part → AreRising (rows ++ part)
    rises also = rise_after n rows part lower own h.rising also

    within_more : AllByRecursion (λ e. list_any (λ t. t == (e.0).table) (ns ++ n ∷ []) ≡ true) (rows ++ part)
    within_more =
        all_append (λ (e : RowId × Row). list_any (λ t. t == (e.0).table) (ns ++ n ∷ []) ≡ true) rows part
        (all_then (λ (e : RowId × Row). list_any (λ t. t == (e.0).table) ns ≡ true) (λ e. list_any (λ t. t == (e.0).table) (ns ++ n ∷ []) ≡ true)
        (λ e k. let r = any_has (λ t. t == (e.0).table) ns k in has_any (λ t. t == (e.0).table) (ns ++ n ∷ []) r.0 (append_has ns (n ∷ []) r.0 (inl r.1)) r.2) rows h.within)
        (all_then (λ (e : RowId × Row). (e.0).table ≡ n) (λ e. list_any (λ t. t == (e.0).table) (ns ++ n ∷ []) ≡ true)
        (λ e k. has_any (λ t. t == (e.0).table) (ns ++ n ∷ []) n (append_has ns (n ∷ []) n (inr (inl refl))) (same_number n (e.0).table (sym k))) part own)

    pub read_more : AreRising part → IsReadBy (table_of schema n) (tables (pos n)) part → AreReadWhole schema tables (ns ++ n ∷ []) (rows ++ part)
    read_more also read =
        let By : ℕ → Rows → Type 0 = λ u rs. IsReadBy (table_of schema u) (tables (pos u)) rs in
        record {
          rising = rises also;
          within = within_more;
          each = all_append (λ u. By u (table_rows u (rows ++ part))) ns (n ∷ [])
              (all_from (λ u. By u (table_rows u (rows ++ part))) ns
              (λ u k. let less = all_each (λ m. m < n) ns up u k in
              subst (By u) (sym (old_rows u (λ e. omega arith))) (all_each (λ u. By u (table_rows u rows)) ns h.each u k)))
              (subst (By n) (sym new_rows) read, tt);
        }

-- ---- all tables

-- each table of the schema has these rows, and no other has any
abbrev pub ReadsTables : Schema → Tables → Rows → Type 0
ReadsTables schema tables rows = (u : ℕ) → IsReadBy (table_of schema u) (tables (pos u)) (table_rows u rows)

not_some : {A : Type 0} (o : Option A) → is_some o ≡ false → o ≡ None
not_some None e = refl
not_some (Some a) e = absurd (true_false e)

-- rows of none of these tables
none_within : (ns : List ℕ) (rows : Rows) (u : ℕ) → AllByRecursion (λ e. list_any (λ t. t == (e.0).table) ns ≡ true) rows → list_any (λ t. t == u) ns ≡ false → table_rows u rows ≡ []
none_within ns rows u h none =
    no_rows u rows
    (all_then (λ (e : RowId × Row). list_any (λ t. t == (e.0).table) ns ≡ true) (λ e. (e.0).table ≡ u → ⊥) (λ e k same. true_false (sym (subst (λ v. list_any (λ t. t == v) ns ≡ true) same k) ∙ none)) rows h)

-- one of these tables
module _ (u : ℕ) where
  pub known_number : (ns : List ℕ) → list_any (λ t. t == u) ns ≡ true → Has ns u
  known_number ns h = let r = any_has (λ t. t == u) ns h in subst (Has ns) (are_same_numbers r.0 u r.2) r.1

  pub number_known : (ns : List ℕ) → Has ns u → list_any (λ t. t == u) ns ≡ true
  number_known ns k = has_any (λ t. t == u) ns u k (same_number u u refl)

-- each of the numbers is that of a table
pub known_tables : (schema : Schema) (ns : List ℕ) → AreNumbersOf schema ns → AllByRecursion (λ n. IsSome (table_of schema n)) ns
known_tables schema ns numbers = all_from (λ n. IsSome (table_of schema n)) ns (λ n k. sym (numbers.same n) ∙ number_known n ns k)

pub whole_all : (schema : Schema) (tables : Tables) (ns : List ℕ) (rows : Rows) → AreNumbersOf schema ns → AreReadWhole schema tables ns rows → ReadsTables schema tables rows
whole_all schema tables ns rows numbers h u =
    elim (list_any (λ t. t == u) ns) as (λ b. list_any (λ t. t == u) ns ≡ b → IsReadBy (table_of schema u) (tables (pos u)) (table_rows u rows)) [
      | true ↦ λ e. all_each (λ n. IsReadBy (table_of schema n) (tables (pos n)) (table_rows n rows)) ns h.each u (known_number u ns e)
      | false ↦ λ e.
          subst (λ o. IsReadBy o (tables (pos u)) (table_rows u rows)) (sym (not_some (table_of schema u) (sym (numbers.same u) ∙ e))) (none_within ns rows u h.within e)
    ] refl

-- ---- the tables up to the row that is ill-formed

rows_front : (before after : List CellRow) → AreRows (before ++ after) → AreRows before
rows_front before after h = record {
  rise = ascending_front (λ (a b : CellRow). key_cmp a.row b.row ≡ _) before after h.rise;
  full = all_front _ before after h.full;
  columns = all_front _ before after h.columns;
}
  where
    ascending_front : (R : CellRow → CellRow → Type 0) (xs ys : List CellRow) → IsAscending R (xs ++ ys) → IsAscending R xs
    ascending_front R [] ys h = tt
    ascending_front R (x ∷ xs) ys h = (all_front (R x) xs ys h.0, ascending_front R xs ys h.1)

no_cells : AreRows []
no_cells = record { rise = tt; full = tt; columns = tt }

none_read : (o : Option TableRule) → IsReadBy o [] []
none_read None = refl
none_read (Some rule) = (no_cells, tt)

-- the tables of these numbers, and of one more its first rows
abbrev pub seen_tables : Tables → List ℕ → ℕ → List CellRow → Tables
seen_tables tables front n before (negsuc k) = []
seen_tables tables front n before (pos u) = cond (u == n) before (cond (list_any (λ t. t == u) front) (tables (pos u)) [])

module _ (schema : Schema) (tables : Tables) (ns : List ℕ) (rising : IsRising ns) (rows : Rows) (n : ℕ) (bytes : List ℕ) (h : AreReadInto schema tables ns rows n bytes) where
  abbrev pub before : List CellRow
  before = (h.stopped).0

  abbrev pub seen : Tables
  seen = seen_tables tables h.front n before

  split_rising : (xs : List ℕ) (m : ℕ) (ys : List ℕ) → IsRising (xs ++ m ∷ ys) → AllByRecursion (λ k. k < m) xs
  split_rising [] m ys up = tt
  split_rising (x ∷ xs) m ys up = (all_each (λ k. x < k) (xs ++ m ∷ ys) up.0 m (append_has xs (m ∷ ys) m (inr (inl refl))), split_rising xs m ys up.1)

  pub lower_front : AllByRecursion (λ k. k < n) h.front
  lower_front = split_rising h.front n h.back (subst IsRising h.order rising)

  number : (h.rule).table ≡ n
  number = numbered schema n h.rule h.own

  pub part_own : AllByRecursion (λ e. (e.0).table ≡ n) h.part
  part_own = subst (λ m. AllByRecursion (λ (e : RowId × Row). (e.0).table ≡ m) h.part) number (own_table h.rule before h.part (h.stopped).4)

  pub into_rises : AreRising rows
  into_rises = subst AreRising (sym h.both) (rises schema tables h.front h.whole h.read n lower_front h.part part_own h.rising)

  front_of_whole : (u : ℕ) → (u ≡ n → ⊥) → table_rows u rows ≡ table_rows u h.whole
  front_of_whole u apart = ap (table_rows u) h.both ∙ old_rows schema tables h.front h.whole h.read n lower_front h.part part_own u apart

  pub into_own : table_rows n rows ≡ h.part
  into_own = ap (table_rows n) h.both ∙ new_rows schema tables h.front h.whole h.read n lower_front h.part part_own

  stopped_rows : IsReadBy (table_of schema n) before (table_rows n rows)
  stopped_rows =
      subst (λ o. IsReadBy o before (table_rows n rows)) (sym h.own)
      (rows_front before (_ ∷ (h.stopped).2) (subst AreRows (h.stopped).3 h.rise), subst (AreEntries h.rule before) (sym into_own) (h.stopped).4)

  apart_from : (u : ℕ) → u == n ≡ false → u ≡ n → ⊥
  apart_from u e same = true_false (sym (same_number u n same) ∙ e)

  pub into_all : ReadsTables schema seen rows
  into_all u =
      elim (u == n) as (λ b. u == n ≡ b → IsReadBy (table_of schema u) (cond b before (cond (list_any (λ t. t == u) h.front) (tables (pos u)) [])) (table_rows u rows)) [
        | true ↦ λ e. subst (λ v. IsReadBy (table_of schema v) before (table_rows v rows)) (sym (are_same_numbers u n e)) stopped_rows
        | false ↦ λ e.
            subst (IsReadBy (table_of schema u) (cond (list_any (λ t. t == u) h.front) (tables (pos u)) [])) (sym (front_of_whole u (apart_from u e)))
            (elim (list_any (λ t. t == u) h.front) as (λ b. list_any (λ t. t == u) h.front ≡ b → IsReadBy (table_of schema u) (cond b (tables (pos u)) []) (table_rows u h.whole)) [
              | true ↦ λ k. all_each (λ m. IsReadBy (table_of schema m) (tables (pos m)) (table_rows m h.whole)) h.front (h.read).each u (known_number u h.front k)
              | false ↦ λ k. subst (IsReadBy (table_of schema u) []) (sym (none_within h.front h.whole u (h.read).within k)) (none_read (table_of schema u))
            ] refl)
      ] refl

  -- ---- and the tables themselves

  -- what was seen of a lower table is all of it
  pub seen_lower : AreNumbersOf schema ns → (u : ℕ) → u < n → IsSome (table_of schema u) → Has h.front u
  seen_lower numbers u less some =
      let all : Has (h.front ++ n ∷ h.back) u = subst (λ l. Has l u) h.order (known_number u ns (numbers.same u ∙ some)) in
      elim (has_append h.front (n ∷ h.back) u all) [
        | inl k ↦ k
        | inr k ↦ absurd (not_after u less k)
      ]
    where
      rest_rising : (xs : List ℕ) (m : ℕ) (ys : List ℕ) → IsRising (xs ++ m ∷ ys) → AllByRecursion (λ k. m < k) ys
      rest_rising [] m ys up = up.0
      rest_rising (x ∷ xs) m ys up = rest_rising xs m ys up.1

      not_after : (u : ℕ) → u < n → Has (n ∷ h.back) u → ⊥
      not_after u less (inl e) = omega arith
      not_after u less (inr k) = let more = all_each (λ k. n < k) h.back (rest_rising h.front n h.back (subst IsRising h.order rising)) u k in omega arith

  pub seen_front : (u : ℕ) → Has h.front u → seen (pos u) ≡ tables (pos u)
  seen_front u k =
      let less = all_each (λ m. m < n) h.front lower_front u k in
      (λ i. cond (apart_number u n (λ e. omega arith) i) before (cond (number_known u h.front k i) (tables (pos u)) []))

  pub seen_own : seen (pos n) ≡ before
  seen_own = ap (λ b. cond b before (cond (list_any (λ t. t == n) h.front) (tables (pos n)) [])) (same_number n n refl)
