-- What the changes of a commit make of the rows that the store's tables hold.
use Rattle.std.proofs.Common.{◌≡◌, ◌∙◌, refl, sym, ap, subst, ℕ, ℤ, pos, negsuc, Bool, true, false, cond, not, T, List, [], ◌∷◌, map, ◌+◌, Ordering, Less, Equal, Greater, eqb→eq, eq-eqb, ◌==◌, int_cmp, int_lt, nat_lt, fold, length}
use Rattle.std.specs.Prelude.{Option, Some, None, ◌≢◌, IfSome, sum_by, is_some}
use Rattle.std.specs.List.{AllByRecursion}
use Rattle.std.specs.FinMap.{find, put, is_sorted, int_cmp-IsAntisymmetric}
use Rattle.std.specs.FinMap.Entries.{find-where_key, is_sorted-where_key, below_all, by_order}
use Rattle.std.specs.Cmp.{tied_itself, int_cmp_total}
use Rattle.std.specs.Ordering.{nat_cmp, eq_by_cmp, is_eq, ordering_reverse, match_ordering}
use Rattle.std.proofs.lemmas.List.{length-map}
use Rattle.std.proofs.lemmas.List.Elements.{recursion_from_All}
use Rattle.sqlite.specs.Tree.{IsAscending}
use Rattle.jpa_value.specs.Value.{identity_cmp}
use Rattle.jpa_rows.specs.keys.Keys.{key_bytes}
use Rattle.jpa_rows.specs.declared.rows.row.Field.{Field}
use Rattle.jpa_rows.specs.declared.rows.row.RowChange.{RowChange}
use Rattle.jpa_rows.specs.declared.rows.schema.TableRule.{TableRule}
use Rattle.jpa_rows.specs.declared.rows.schema.Schema.{Schema}
use Rattle.jpa_rows.specs.rows.Rows.{RowId, Row, Rows, is_key, table_of, table_rows, IsRowOf, AreRising, entry_of, rows_after, IsChangeIn, IsChangeBy, AreChanges}
use Rattle.jpa_rows.specs.rows.Statements.{columns_in, statements_of}
use Rattle.jpa_rows.specs.laws.Changes.{dropped, changed as put_or_dropped, seen, over}
use Rattle.jpa_rows.proofs.laws.Maps.{absent_below, same_answers, same_key}
use Rattle.jpa_rows.proofs.laws.Overlay.{changed_rises, seen_rises, found_changed, found_seen}
use Rattle.jpa_rows.proofs.laws.Facts.{first_holds, second_holds, is_less}
use Rattle.jpa_cells.specs.declared.meaning.CellRow.{CellRow}
use Rattle.jpa_cells.specs.meaning.Tables.{Tables, row_of, placed, key_cmp, cell_cmp, with_row, without_row, rows_after as cells_rows_after, changed, tables_after}
use Rattle.jpa_cells.specs.meaning.Tables as cells
use Rattle.jpa_cells.proofs.meaning.Placing.{placed_rising}
use Rattle.jpa_cells.specs.rowspace.Stored.{cell_of, stored_row, stored_rows, cells_in, cell_change, cell_changes, IsEntryBy, AreRowsOf, AreStored}
use Rattle.jpa_cells.proofs.rowspace.Ids.{id_order, ids_order, numbered, IsIn, in_table}

-- ---- the cells of a row are in rising columns

first_less : (b c : Bool) → cond b Less (cond c Equal Greater) ≡ Less → b ≡ true
first_less true c h = refl
first_less false true h = cc
first_less false false h = cc

less_columns : (a b : ℕ) → nat_cmp a b ≡ Less → int_cmp (pos a) (pos b) ≡ Less
less_columns a b h = ap (λ x. cond x Less (cond (int_lt (pos b) (pos a)) Greater Equal)) (first_less (nat_lt a b) (a == b) h)

columns_above : (f : Field) (row : Row) → T (below_all nat_cmp f.column (map (λ (g : Field). (g.column, g.content)) row)) → AllByRecursion (λ c. cell_cmp (cell_of f) c ≡ Less) (map cell_of row)
columns_above f [] h = tt
columns_above f (g ∷ row) h = (less_columns f.column g.column (is_less _ (first_holds _ _ h)), columns_above f row (second_holds _ _ h))

columns_rise : (row : Row) → T (is_sorted nat_cmp (map (λ (g : Field). (g.column, g.content)) row)) → IsAscending (λ a b. cell_cmp a b ≡ Less) (map cell_of row)
columns_rise [] h = tt
columns_rise (f ∷ row) h = (columns_above f row (first_holds _ _ h), columns_rise row (second_holds _ _ h))

-- ---- one change within a table

turned : (rule : TableRule) (id : RowId) (e : RowId × Row) → is_key rule.key id.key ≡ true → id.table ≡ rule.table → IsIn rule e → key_cmp (key_bytes (e.0).key) (key_bytes id.key) ≡ ordering_reverse (identity_cmp id e.0)
turned rule id e named own h = ids_order rule.key e.0 id (h.entry).named named (h.own ∙ sym own) ∙ id_order.total.antisymm e.0 id

put_one : (id : RowId) (row : Row) (e : RowId × Row) (es : Rows) (o : Ordering) → identity_cmp id e.0 ≡ o
    → map stored_row (put identity_cmp id row es) ≡ with_row (stored_row (id, row)) (map stored_row es)
    → map stored_row (by_order o ((id, row) ∷ e ∷ es) ((e.0, row) ∷ es) (e ∷ put identity_cmp id row es))
    ≡ match_ordering (ordering_reverse o) (stored_row e ∷ with_row (stored_row (id, row)) (map stored_row es)) (stored_row (id, row) ∷ map stored_row es) (stored_row (id, row) ∷ stored_row e ∷ map stored_row es)
put_one id row e es Less h rest = refl
put_one id row e es Equal h rest = ap (λ i. stored_row (i, row) ∷ map stored_row es) (sym (id_order.exact id e.0 h))
put_one id row e es Greater h rest = ap (λ rows. stored_row e ∷ rows) rest

put_rows : (rule : TableRule) (id : RowId) (row : Row) → is_key rule.key id.key ≡ true → id.table ≡ rule.table → (es : Rows) → AllByRecursion (IsIn rule) es
    → map stored_row (put identity_cmp id row es) ≡ with_row (stored_row (id, row)) (map stored_row es)
put_rows rule id row named own [] h = refl
put_rows rule id row named own (e ∷ es) h =
    put_one id row e es (identity_cmp id e.0) refl (put_rows rule id row named own es h.1)
    ∙ ap (λ o. match_ordering o (stored_row e ∷ with_row (stored_row (id, row)) (map stored_row es)) (stored_row (id, row) ∷ map stored_row es) (stored_row (id, row) ∷ stored_row e ∷ map stored_row es)) (sym (turned rule id e named own h.0))

drop_rows : (rule : TableRule) (id : RowId) → is_key rule.key id.key ≡ true → id.table ≡ rule.table → (es : Rows) → AllByRecursion (IsIn rule) es
    → map stored_row (dropped identity_cmp id es) ≡ without_row (key_bytes id.key) (map stored_row es)
drop_rows rule id named own [] h = refl
drop_rows rule id named own (e ∷ es) h =
    by (eq_by_cmp identity_cmp id e.0)
    ∙ ap (λ l. cond (not (eq_by_cmp identity_cmp id e.0)) (stored_row e ∷ l) l) (drop_rows rule id named own es h.1)
    ∙ ap (λ o. cond (not (is_eq o)) (stored_row e ∷ without_row (key_bytes id.key) (map stored_row es)) (without_row (key_bytes id.key) (map stored_row es)))
    (sym (ids_order rule.key id e.0 named ((h.0).entry).named (own ∙ sym (h.0).own)))
  where
    by : (b : Bool) → map stored_row (cond (not b) (e ∷ dropped identity_cmp id es) (dropped identity_cmp id es)) ≡ cond (not b) (stored_row e ∷ map stored_row (dropped identity_cmp id es)) (map stored_row (dropped identity_cmp id es))
    by true = refl
    by false = refl

filled_put : (key : List ℕ) (row : Row) (rows : List CellRow) → row ≢ [] → cells_rows_after key (map cell_of row) rows ≡ with_row (row_of key (placed (map cell_of row))) rows
filled_put key [] rows h = absurd (h refl)
filled_put key (f ∷ row) rows h = refl

one_row : (rule : TableRule) (change : RowChange) → IsChangeIn rule change → (change.id).table ≡ rule.table → (es : Rows) → AllByRecursion (IsIn rule) es
    → cells_rows_after (key_bytes (change.id).key) (cells_in change.row) (map stored_row es) ≡ map stored_row (put_or_dropped identity_cmp change.id change.row es)
one_row rule change h own es all = by change.row h.whole h.filled
  where
    by : (o : Option Row) → IfSome o (IsRowOf rule) → IfSome o (λ row. row ≢ []) → cells_rows_after (key_bytes (change.id).key) (cells_in o) (map stored_row es) ≡ map stored_row (put_or_dropped identity_cmp change.id o es)
    by None w f = sym (drop_rows rule change.id h.named own es all)
    by (Some row) w f =
        filled_put (key_bytes (change.id).key) row (map stored_row es) f
        ∙ ap (λ cs. with_row (row_of (key_bytes (change.id).key) cs) (map stored_row es)) (placed_rising (map cell_of row) (columns_rise row w.rising))
        ∙ sym (put_rows rule change.id row h.named own es all)

-- ---- a change among the rows of all tables

of_part : {A : Type 0} (b p q : Bool) (c o : Option A) → (b ≡ true → q ≡ p) → p ≡ true → cond q (cond b c o) None ≡ cond b c (cond q o None)
of_part true p true c o same e = refl
of_part true p false c o same e = absurd (true_not (sym e ∙ sym (same refl)))
  where
    true_not : true ≡ false → ⊥
    true_not x = cc
of_part false p q c o same e = refl

of_other : {A : Type 0} (b p q : Bool) (c o : Option A) → (b ≡ true → q ≡ p) → p ≡ false → cond q (cond b c o) None ≡ cond q o None
of_other true p true c o same e = absurd (true_not (same refl ∙ e))
  where
    true_not : true ≡ false → ⊥
    true_not x = cc
of_other true p false c o same e = refl
of_other false p q c o same e = refl

module _ (n : ℕ) (id : RowId) (o : Option Row) (rows : Rows) (rising : AreRising rows) where
  abbrev pub is_own : RowId → Bool
  is_own x = x.table == n

  alike : (q x : RowId) → identity_cmp q x ≡ Equal → is_own x ≡ is_own q
  alike q x h = ap is_own (sym (id_order.exact q x h))

  tied : (q : RowId) → eq_by_cmp identity_cmp q id ≡ true → is_own q ≡ is_own id
  tied q h = ap is_own (same_key id_order q id h)

  abbrev pub after : Rows
  after = put_or_dropped identity_cmp id o rows

  after_rises : AreRising after
  after_rises = changed_rises id_order id o rows rising

  part : (es : Rows) (q : RowId) → find identity_cmp q (table_rows n es) ≡ cond (is_own q) (find identity_cmp q es) None
  part es q = find-where_key identity_cmp is_own q (alike q) es

  pub own_table : is_own id ≡ true → table_rows n after ≡ put_or_dropped identity_cmp id o (table_rows n rows)
  own_table e =
      same_answers id_order _ _ (is_sorted-where_key identity_cmp is_own after after_rises) (changed_rises id_order id o (table_rows n rows) (is_sorted-where_key identity_cmp is_own rows rising))
      (λ q. part after q ∙ ap (λ x. cond (is_own q) x None) (found_changed id_order q id o rows)
      ∙ of_part (eq_by_cmp identity_cmp q id) (is_own id) (is_own q) o (find identity_cmp q rows) (tied q) e
      ∙ ap (cond (eq_by_cmp identity_cmp q id) o) (sym (part rows q))
      ∙ sym (found_changed id_order q id o (table_rows n rows)))

  pub other_table : is_own id ≡ false → table_rows n after ≡ table_rows n rows
  other_table e =
      same_answers id_order _ _ (is_sorted-where_key identity_cmp is_own after after_rises) (is_sorted-where_key identity_cmp is_own rows rising)
      (λ q. part after q ∙ ap (λ x. cond (is_own q) x None) (found_changed id_order q id o rows)
      ∙ of_other (eq_by_cmp identity_cmp q id) (is_own id) (is_own q) o (find identity_cmp q rows) (tied q) e
      ∙ sym (part rows q))

-- ---- one change of the store

int_apart : (a b : ℕ) (o : Ordering) → int_cmp (pos a) (pos b) ≡ o → a == b ≡ false → is_eq (int_cmp (pos a) (pos b)) ≡ false
int_apart a b Less h e = ap is_eq h
int_apart a b Equal h e = absurd (true_not (sym (eq-eqb a b (ap nat_in (int_cmp-IsAntisymmetric (pos a) (pos b) h))) ∙ e))
  where
    nat_in : ℤ → ℕ
    nat_in (pos n) = n
    nat_in (negsuc n) = 0

    true_not : true ≡ false → ⊥
    true_not x = cc
int_apart a b Greater h e = ap is_eq h

module _ (schema : Schema) (change : RowChange) (rows : Rows) (h : IsChangeBy (table_of schema (change.id).table) change) (whole : AreRowsOf schema rows) where
  by_table : (n : ℕ) (rule : TableRule) → table_of schema n ≡ Some rule → (tables : Tables) → tables (pos n) ≡ stored_rows n rows → (b : Bool) → (change.id).table == n ≡ b
      → changed (cell_change change) tables (pos n) ≡ stored_rows n (put_or_dropped identity_cmp change.id change.row rows)
  by_table n rule is tables held true e =
      let id = change.id in
      let own = eqb→eq id.table n (subst T (sym e) tt) in
      let rule_own = own ∙ sym (numbered schema n rule is) in
      let in_rule : IsChangeIn rule change = subst (λ o. IsChangeBy o change) (ap (table_of schema) own ∙ is) h in
      ap (λ o. cond (is_eq o) (cells_rows_after (key_bytes id.key) (cells_in change.row) (tables (pos n))) (tables (pos n))) (ap (λ m. int_cmp (pos m) (pos n)) own ∙ tied_itself int_cmp_total (pos n))
      ∙ ap (cells_rows_after (key_bytes id.key) (cells_in change.row)) held
      ∙ one_row rule change in_rule rule_own (table_rows n rows) (in_table schema n rule is rows whole.each)
      ∙ ap (map stored_row) (sym (own_table n id change.row rows whole.rising e))
  by_table n rule is tables held false e =
      let id = change.id in
      ap (λ b. cond b (cells_rows_after (key_bytes id.key) (cells_in change.row) (tables (pos n))) (tables (pos n))) (int_apart id.table n (int_cmp (pos id.table) (pos n)) refl e)
      ∙ held ∙ ap (map stored_row) (sym (other_table n id change.row rows whole.rising e))

  some_rule : (o : Option TableRule) → is_some o ≡ true → (rule : TableRule) × (o ≡ Some rule)
  some_rule None e = absurd (true_not (sym e))
    where
      true_not : true ≡ false → ⊥
      true_not x = cc
  some_rule (Some rule) e = (rule, refl)

  pub change_stored : (tables : Tables) → AreStored schema tables rows → AreStored schema (changed (cell_change change) tables) (put_or_dropped identity_cmp change.id change.row rows)
  change_stored tables held n some =
      let rule = some_rule (table_of schema n) some in
      by_table n rule.0 rule.1 tables (held n some) ((change.id).table == n) refl

-- ---- the rows stay rows of the schema

module _ (P : RowId × Row → Type 0) where
  all_put : (id : RowId) (row : Row) (es : Rows) → P (id, row) → AllByRecursion P es → AllByRecursion P (put identity_cmp id row es)
  all_put id row [] p h = (p, tt)
  all_put id row (e ∷ es) p h =
      elim (identity_cmp id e.0) as (λ o. identity_cmp id e.0 ≡ o → AllByRecursion P (by_order o ((id, row) ∷ e ∷ es) ((e.0, row) ∷ es) (e ∷ put identity_cmp id row es))) [
        | Less ↦ λ q. (p, h)
        | Equal ↦ λ q. (subst (λ i. P (i, row)) (id_order.exact id e.0 q) p, h.1)
        | Greater ↦ λ q. (h.0, all_put id row es p h.1)
      ] refl

  all_dropped : (id : RowId) (es : Rows) → AllByRecursion P es → AllByRecursion P (dropped identity_cmp id es)
  all_dropped id [] h = tt
  all_dropped id (e ∷ es) h =
      elim (eq_by_cmp identity_cmp id e.0) as (λ b. AllByRecursion P (cond (not b) (e ∷ dropped identity_cmp id es) (dropped identity_cmp id es))) [
        | true ↦ all_dropped id es h.1
        | false ↦ (h.0, all_dropped id es h.1)
      ]

entry_by : (o : Option TableRule) (change : RowChange) (row : Row) → change.row ≡ Some row → IsChangeBy o change → IsEntryBy o (change.id, row)
entry_by None change row is h = h
entry_by (Some rule) change row is h =
    record { named = h.named; whole = subst (λ (r : Option Row). IfSome r (IsRowOf rule)) is h.whole; filled = subst (λ (r : Option Row). IfSome r (λ x. x ≢ [])) is h.filled }

change_whole : (schema : Schema) (change : RowChange) (rows : Rows) → IsChangeBy (table_of schema (change.id).table) change → AreRowsOf schema rows
    → AreRowsOf schema (put_or_dropped identity_cmp change.id change.row rows)
change_whole schema change rows h whole = record {
  rising = changed_rises id_order change.id change.row rows whole.rising;
  each = by change.row refl;
}
  where
    Fits : RowId × Row → Type 0
    Fits e = IsEntryBy (table_of schema (e.0).table) e

    by : (o : Option Row) → change.row ≡ o → AllByRecursion Fits (put_or_dropped identity_cmp change.id o rows)
    by None is = all_dropped Fits change.id rows whole.each
    by (Some row) is = all_put Fits change.id row rows (entry_by (table_of schema (change.id).table) change row is h) whole.each

-- ---- all of them

-- a change below all others may as well come before them
module _ (id : RowId) (o : Option Row) (base : Rows) (rising : AreRising base) (cs : List (RowId × Option Row)) (low : T (below_all identity_cmp id cs)) where
  either : (q : RowId) → over (find identity_cmp q cs) (cond (eq_by_cmp identity_cmp q id) o (find identity_cmp q base)) ≡ cond (eq_by_cmp identity_cmp q id) o (over (find identity_cmp q cs) (find identity_cmp q base))
  either q =
      elim (eq_by_cmp identity_cmp q id) as (λ b. eq_by_cmp identity_cmp q id ≡ b → over (find identity_cmp q cs) (cond b o (find identity_cmp q base)) ≡ cond b o (over (find identity_cmp q cs) (find identity_cmp q base))) [
        | true ↦ λ t. ap (λ x. over x o) (ap (λ k. find identity_cmp k cs) (same_key id_order q id t) ∙ absent_below identity_cmp id cs low)
        | false ↦ λ t. refl
      ] refl

  first_made : seen identity_cmp (put_or_dropped identity_cmp id o base) cs ≡ put_or_dropped identity_cmp id o (seen identity_cmp base cs)
  first_made =
      same_answers id_order _ _ (seen_rises id_order _ cs (changed_rises id_order id o base rising)) (changed_rises id_order id o _ (seen_rises id_order base cs rising))
      (λ q. found_seen id_order q (put_or_dropped identity_cmp id o base) cs
      ∙ ap (over (find identity_cmp q cs)) (found_changed id_order q id o base)
      ∙ either q
      ∙ ap (cond (eq_by_cmp identity_cmp q id) o) (sym (found_seen id_order q base cs))
      ∙ sym (found_changed id_order q id o (seen identity_cmp base cs)))

module _ (schema : Schema) where
  abbrev Fitting : RowChange → Type 0
  Fitting change = IsChangeBy (table_of schema (change.id).table) change

  all_after : (changes : List RowChange) → T (is_sorted identity_cmp (map entry_of changes)) → AllByRecursion Fitting changes → (rows : Rows) → AreRowsOf schema rows
      → AreRowsOf schema (rows_after changes rows) × ((tables : Tables) → AreStored schema tables rows → AreStored schema (tables_after (cell_changes changes) tables) (rows_after changes rows))
  all_after [] up h rows whole = (whole, λ tables held. held)
  all_after (c ∷ changes) up h rows whole =
      let next = put_or_dropped identity_cmp c.id c.row rows in
      let rest = all_after changes (second_holds _ _ up) h.1 next (change_whole schema c rows h.0 whole) in
      let same = first_made c.id c.row rows whole.rising (map entry_of changes) (first_holds _ _ up) in (
        subst (AreRowsOf schema) same rest.0,
        λ tables held. subst (AreStored schema (tables_after (cell_changes changes) (changed (cell_change c) tables))) same (rest.1 (changed (cell_change c) tables) (change_stored schema c rows h.0 whole tables held)),
      )

  pub whole_after : (changes : List RowChange) → AreChanges schema changes → (rows : Rows) → AreRowsOf schema rows → AreRowsOf schema (rows_after changes rows)
  whole_after changes h rows whole = (all_after changes h.rising (recursion_from_All Fitting changes h.each) rows whole).0

  pub stored_after : (changes : List RowChange) → AreChanges schema changes → (rows : Rows) → AreRowsOf schema rows → (tables : Tables) → AreStored schema tables rows
      → AreStored schema (tables_after (cell_changes changes) tables) (rows_after changes rows)
  stored_after changes h rows whole = (all_after changes h.rising (recursion_from_All Fitting changes h.each) rows whole).1

-- ---- the statements

columns_counted : (row : Option Row) → length (cells_in row) ≡ length (columns_in row)
columns_counted None = refl
columns_counted (Some row) = length-map row cell_of

added_from : (n : ℕ) (changes : List RowChange) → fold (λ a x. a + cells.statements_of x) n (cell_changes changes) ≡ fold (λ a x. a + statements_of x) n changes
added_from n [] = refl
added_from n (c ∷ changes) =
    ap (λ columns. fold (λ a x. a + cells.statements_of x) (n + (columns + 1)) (cell_changes changes)) (columns_counted c.row) ∙ added_from (n + statements_of c) changes

pub same_statements : (changes : List RowChange) → sum_by cells.statements_of (cell_changes changes) ≡ sum_by statements_of changes
same_statements changes = added_from 0 changes
