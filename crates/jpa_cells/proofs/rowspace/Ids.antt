-- Ids of one table are in the order of their bytes, and the rows of a table are those of its entries.
use Rattle.std.proofs.Common.{◌≡◌, ◌∙◌, refl, sym, ap, subst, ℕ, Bool, true, false, cond, T, List, [], ◌∷◌, map, eqb→eq, eq-eqb, ◌==◌}
use Rattle.std.specs.Prelude.{find as first, Option, Some, None, ◌≢◌, IfSome}
use Rattle.std.specs.List.{AllByRecursion, list_all}
use Rattle.std.specs.FinMap.{find}
use Rattle.std.specs.FinMap.Entries.{find-where_key}
use Rattle.std.specs.Cmp.{tied_itself, nat_cmp_total}
use Rattle.std.specs.Ordering.{nat_cmp, ordering_then, eq_by_cmp, is_eq}
use Rattle.jpa_value.specs.declared.value.Value.{Value}
use Rattle.jpa_value.specs.declared.value.Kind.{Kind}
use Rattle.jpa_value.specs.Value.{identity_cmp}
use Rattle.jpa_value.specs.Value as values
use Rattle.jpa_value.proofs.Orders.{identity_total, identity_exact}
use Rattle.jpa_rows.specs.keys.Keys.{is_key_of, key_bytes, Spells}
use Rattle.jpa_rows.proofs.keys.Orders.{spelled_order}
use Rattle.jpa_behaviour.specs.Behaviour.{is_short}
use Rattle.jpa_rows.specs.declared.rows.schema.TableRule.{TableRule}
use Rattle.jpa_rows.specs.declared.rows.schema.Schema.{Schema}
use Rattle.jpa_rows.specs.rows.Rows.{RowId, Row, Rows, is_key, table_of, table_rows, IsRowOf}
use Rattle.jpa_rows.specs.laws.Orders.{IsLinearOrder}
use Rattle.jpa_rows.proofs.laws.Facts.{and_first, some_none, value_in, is_equal}
use Rattle.jpa_cells.specs.meaning.Tables.{key_cmp, cells_at}
use Rattle.jpa_cells.specs.rowspace.Stored.{IsEntryIn, IsEntryBy, stored_row, cells_in, cell_of}

pub id_order : IsLinearOrder identity_cmp
id_order = record { total = identity_total; exact = identity_exact }

-- ---- the order of ids

spelled : (kinds : List Kind) (key : List Value) → is_key kinds key ≡ true → Spells kinds (key_bytes key) key
spelled kinds key h = record { whole = and_first (is_key_of kinds key) (list_all is_short key) h; same = refl }

pub bytes_order : (kinds : List Kind) (x y : List Value) → is_key kinds x ≡ true → is_key kinds y ≡ true → key_cmp (key_bytes x) (key_bytes y) ≡ values.key_cmp x y
bytes_order kinds x y h g = spelled_order kinds (key_bytes x) (key_bytes y) x y (spelled kinds x h) (spelled kinds y g)

pub same_table : (a b : RowId) → a.table ≡ b.table → identity_cmp a b ≡ values.key_cmp a.key b.key
same_table a b e = ap (λ o. ordering_then o (values.key_cmp a.key b.key)) (ap (λ n. nat_cmp n b.table) e ∙ tied_itself nat_cmp_total b.table)

pub ids_order : (kinds : List Kind) (a b : RowId) → is_key kinds a.key ≡ true → is_key kinds b.key ≡ true → a.table ≡ b.table → key_cmp (key_bytes a.key) (key_bytes b.key) ≡ identity_cmp a b
ids_order kinds a b h g e = bytes_order kinds a.key b.key h g ∙ sym (same_table a b e)

-- ---- the number of a table

numbered_in : (tables : List TableRule) (n : ℕ) (rule : TableRule) → first (λ r. r.table == n) tables ≡ Some rule → rule.table ≡ n
numbered_in [] n rule e = absurd (some_none rule (sym e))
numbered_in (t ∷ tables) n rule e =
    elim (t.table == n) as (λ b. t.table == n ≡ b → cond b (Some t) (first (λ r. r.table == n) tables) ≡ Some rule → rule.table ≡ n) [
      | true ↦ λ h f. ap (λ (r : TableRule). r.table) (sym (value_in t rule f)) ∙ eqb→eq t.table n (subst T (sym h) tt)
      | false ↦ λ h f. numbered_in tables n rule f
    ] refl e

pub numbered : (schema : Schema) (n : ℕ) (rule : TableRule) → table_of schema n ≡ Some rule → rule.table ≡ n
numbered schema n rule e = numbered_in schema.tables n rule e

-- ---- the entries of a table

pub record IsIn (table : TableRule) (e : RowId × Row) : Type 0 where
  pub entry : IsEntryIn table e
  pub own : (e.0).table ≡ table.table

pub in_table : (schema : Schema) (n : ℕ) (rule : TableRule) → table_of schema n ≡ Some rule → (rows : Rows)
    → AllByRecursion (λ e. IsEntryBy (table_of schema (e.0).table) e) rows → AllByRecursion (IsIn rule) (table_rows n rows)
in_table schema n rule is [] h = tt
in_table schema n rule is (e ∷ rows) h =
    elim ((e.0).table == n) as (λ b. (e.0).table == n ≡ b → AllByRecursion (IsIn rule) (cond b (e ∷ table_rows n rows) (table_rows n rows))) [
      | true ↦ λ t.
          let same = eqb→eq (e.0).table n (subst T (sym t) tt) in
          (record { entry = subst (λ o. IsEntryBy o e) (ap (table_of schema) same ∙ is) h.0; own = same ∙ sym (numbered schema n rule is) }, in_table schema n rule is rows h.1)
      | false ↦ λ t. in_table schema n rule is rows h.1
    ] refl

-- what is sought among all rows is sought in its table
pub sought : (id : RowId) (rows : Rows) → find identity_cmp id rows ≡ find identity_cmp id (table_rows id.table rows)
sought id rows =
    sym (find-where_key identity_cmp (λ x. x.table == id.table) id (λ x h. ap (λ (y : RowId). y.table == id.table) (sym (identity_exact id x h))) rows
    ∙ ap (λ b. cond b (find identity_cmp id rows) None) (eq-eqb id.table id.table refl))

-- an id that can be no row's
pub absent : (schema : Schema) (id : RowId) → ((row : Row) → IsEntryBy (table_of schema id.table) (id, row) → ⊥) → (rows : Rows)
    → AllByRecursion (λ e. IsEntryBy (table_of schema (e.0).table) e) rows → find identity_cmp id rows ≡ None
absent schema id none [] h = refl
absent schema id none (e ∷ rows) h =
    elim (eq_by_cmp identity_cmp id e.0) as (λ b. eq_by_cmp identity_cmp id e.0 ≡ b → cond b (Some e.1) (find identity_cmp id rows) ≡ None) [
      | true ↦ λ t. absurd (none e.1 (subst (λ i. IsEntryBy (table_of schema i.table) (i, e.1)) (sym (identity_exact id e.0 (is_equal _ t))) h.0))
      | false ↦ λ t. absent schema id none rows h.1
    ] refl

-- ---- the cells under an id's bytes are those of its row

given_or : (b : Bool) (row : Row) (o : Option Row) → cond b (map cell_of row) (cells_in o) ≡ cells_in (cond b (Some row) o)
given_or true row o = refl
given_or false row o = refl

pub cells_found : (rule : TableRule) (id : RowId) → is_key rule.key id.key ≡ true → id.table ≡ rule.table → (es : Rows) → AllByRecursion (IsIn rule) es
    → cells_at (key_bytes id.key) (map stored_row es) ≡ cells_in (find identity_cmp id es)
cells_found rule id named own [] h = refl
cells_found rule id named own (e ∷ es) h =
    ap (λ o. cond (is_eq o) (map cell_of e.1) (cells_at (key_bytes id.key) (map stored_row es))) (ids_order rule.key id e.0 named (h.0).entry.named (own ∙ sym (h.0).own))
    ∙ ap (cond (eq_by_cmp identity_cmp id e.0) (map cell_of e.1)) (cells_found rule id named own es h.1)
    ∙ given_or (eq_by_cmp identity_cmp id e.0) e.1 (find identity_cmp id es)

-- what is found is a row of the table, with a column
pub found_in : (rule : TableRule) (id : RowId) (es : Rows) → AllByRecursion (IsIn rule) es → IfSome (find identity_cmp id es) (λ row. (row ≢ []) × IsRowOf rule row)
found_in rule id [] h = tt
found_in rule id (e ∷ es) h =
    elim (eq_by_cmp identity_cmp id e.0) as (λ b. IfSome (cond b (Some e.1) (find identity_cmp id es)) (λ row. (row ≢ []) × IsRowOf rule row)) [
      | true ↦ ((h.0).entry.filled, (h.0).entry.whole)
      | false ↦ found_in rule id es h.1
    ]
