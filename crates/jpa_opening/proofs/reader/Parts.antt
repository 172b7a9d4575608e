-- The rows of one table among those of several, and rows that rise one table after another.
use Rattle.std.specs.Prelude.{◌≡◌, ℕ, zero, suc, ◌<◌, ◌≤◌, true, false, cond, ◌==◌, nat_lt, T, List, [], ◌∷◌, ◌++◌, length, slice_index_or}
use Rattle.std.proofs.Common.{refl, sym, ap, subst, ◌∙◌, arith, eq-eqb, eqb→eq, Less, Equal, Greater}
use Rattle.std.specs.List.{AllByRecursion}
use Rattle.std.specs.FinMap.Entries.{below_all}
use Rattle.std.specs.Ordering.{nat_cmp, ordering_then, is_lt}
use Rattle.std.specs.declared.cmp.Ordering.{Ordering}
use Rattle.jpa_value.specs.Value.{identity_cmp, key_cmp}
use Rattle.jpa_rows.specs.rows.Rows.{RowId, Row, Rows, AreRising, table_rows}
use Rattle.jpa_rows.proofs.rows.Splits.{all_then}
use Rattle.jpa_rows.proofs.laws.Facts.{is_less, first_holds, second_holds, both_hold}
use Rattle.jpa_object_rows.proofs.meaning.Bytes.Classes.{below, is_below}

-- ---- lists

pub all_append : {X : Type 0} (P : X → Type 0) (xs ys : List X) → AllByRecursion P xs → AllByRecursion P ys → AllByRecursion P (xs ++ ys)
all_append P [] ys h g = g
all_append P (x ∷ xs) ys h g = (h.0, all_append P xs ys h.1 g)

pub all_front : {X : Type 0} (P : X → Type 0) (xs ys : List X) → AllByRecursion P (xs ++ ys) → AllByRecursion P xs
all_front P [] ys h = tt
all_front P (x ∷ xs) ys h = (h.0, all_front P xs ys h.1)

pub all_back : {X : Type 0} (P : X → Type 0) (xs ys : List X) → AllByRecursion P (xs ++ ys) → AllByRecursion P ys
all_back P [] ys h = h
all_back P (x ∷ xs) ys h = all_back P xs ys h.1

pub append_nil : {X : Type 0} (xs : List X) → xs ++ [] ≡ xs
append_nil [] = refl
append_nil (x ∷ xs) = ap (λ l. x ∷ l) (append_nil xs)

pub one_of : (P : ℕ → Type 0) (xs : List ℕ) (i : ℕ) → i < length xs → AllByRecursion P xs → P (slice_index_or xs i 0)
one_of P [] i less h = absurd (omega arith)
one_of P (x ∷ xs) zero less h = h.0
one_of P (x ∷ xs) (suc i) less h = one_of P xs i (omega arith) h.1

-- ---- the rows of a table

pub rows_append : (n : ℕ) (a b : Rows) → table_rows n (a ++ b) ≡ table_rows n a ++ table_rows n b
rows_append n [] b = refl
rows_append n (e ∷ a) b =
    elim ((e.0).table == n) as (λ t. cond t (e ∷ table_rows n (a ++ b)) (table_rows n (a ++ b)) ≡ cond t (e ∷ table_rows n a) (table_rows n a) ++ table_rows n b) [
      | true ↦ ap (λ l. e ∷ l) (rows_append n a b)
      | false ↦ rows_append n a b
    ]

pub same_number : (a b : ℕ) → a ≡ b → a == b ≡ true
same_number a b e = eq-eqb a b e

pub apart_number : (a b : ℕ) → (a ≡ b → ⊥) → a == b ≡ false
apart_number a b h = elim (a == b) as (λ t. a == b ≡ t → t ≡ false) [
  | true ↦ λ e. absurd (h (eqb→eq a b (subst T (sym e) tt)))
  | false ↦ λ e. refl
] refl

pub own_rows : (n : ℕ) (rows : Rows) → AllByRecursion (λ e. (e.0).table ≡ n) rows → table_rows n rows ≡ rows
own_rows n [] h = refl
own_rows n (e ∷ rows) h =
    ap (λ t. cond t (e ∷ table_rows n rows) (table_rows n rows)) (same_number (e.0).table n h.0) ∙ ap (λ l. e ∷ l) (own_rows n rows h.1)

pub no_rows : (n : ℕ) (rows : Rows) → AllByRecursion (λ e. (e.0).table ≡ n → ⊥) rows → table_rows n rows ≡ []
no_rows n [] h = refl
no_rows n (e ∷ rows) h = ap (λ t. cond t (e ∷ table_rows n rows) (table_rows n rows)) (apart_number (e.0).table n h.0) ∙ no_rows n rows h.1

-- the first of the others is of the table
pub rows_from : (n : ℕ) (front : Rows) (e : RowId × Row) (back : Rows) → (e.0).table ≡ n → table_rows n (front ++ e ∷ back) ≡ table_rows n front ++ e ∷ table_rows n back
rows_from n front e back own =
    rows_append n front (e ∷ back) ∙ ap (λ t. table_rows n front ++ cond t (e ∷ table_rows n back) (table_rows n back)) (same_number (e.0).table n own)

-- ---- tables rise with ids

less_table : (a b : RowId) → a.table < b.table → identity_cmp a b ≡ Less
less_table a b h = ap (λ t. ordering_then (cond t Less (cond (a.table == b.table) Equal Greater)) (key_cmp a.key b.key)) (is_below a.table b.table h)

no_higher : (x y : ℕ) (o : Ordering) → ordering_then (nat_cmp x y) o ≡ Less → x ≤ y
no_higher x y o e =
    elim (nat_lt x y) as (λ t. nat_lt x y ≡ t → ordering_then (cond t Less (cond (x == y) Equal Greater)) o ≡ Less → x ≤ y) [
      | true ↦ λ h f. let less = below x y h in omega arith
      | false ↦ λ h f.
          elim (x == y) as (λ t. x == y ≡ t → ordering_then (cond t Equal Greater) o ≡ Less → x ≤ y) [
            | true ↦ λ s g. let same : x ≡ y = eqb→eq x y (subst T (sym s) tt) in omega arith
            | false ↦ λ s g. cc
          ] refl f
    ] refl e

pub tables_above : (x : RowId) (es : Rows) → T (below_all identity_cmp x es) → AllByRecursion (λ e. x.table ≤ (e.0).table) es
tables_above x [] h = tt
tables_above x (e ∷ es) h = (no_higher x.table (e.0).table (key_cmp x.key (e.0).key) (is_less (identity_cmp x e.0) (first_holds _ _ h)), tables_above x es (second_holds _ _ h))

below_tables : (x : RowId) (es : Rows) → AllByRecursion (λ e. x.table < (e.0).table) es → T (below_all identity_cmp x es)
below_tables x [] h = tt
below_tables x (e ∷ es) h = both_hold _ _ (subst (λ o. T (is_lt o)) (sym (less_table x e.0 h.0)) tt) (below_tables x es h.1)

below_append : (x : RowId) (a b : Rows) → T (below_all identity_cmp x a) → T (below_all identity_cmp x b) → T (below_all identity_cmp x (a ++ b))
below_append x [] b h g = g
below_append x (e ∷ a) b h g = both_hold _ _ (first_holds _ _ h) (below_append x a b (second_holds _ _ h) g)

-- rows of higher tables after others
pub rise_after : (n : ℕ) (a b : Rows) → AllByRecursion (λ e. (e.0).table < n) a → AllByRecursion (λ e. (e.0).table ≡ n) b → AreRising a → AreRising b → AreRising (a ++ b)
rise_after n [] b low own up also = also
rise_after n (e ∷ a) b low own up also =
    let less = low.0 in
    both_hold _ _
    (below_append e.0 a b (first_holds _ _ up) (below_tables e.0 b (all_then (λ (d : RowId × Row). (d.0).table ≡ n) (λ d. (e.0).table < (d.0).table) (λ d k. subst (λ m. (e.0).table < m) (sym k) less) b own)))
    (rise_after n a b low.1 own (second_holds _ _ up) also)

pub rise_back : (a b : Rows) → AreRising (a ++ b) → AreRising b
rise_back [] b h = h
rise_back (e ∷ a) b h = rise_back a b (second_holds _ _ h)

-- from a row on, no row is of a lower table
pub tables_from : (front : Rows) (e : RowId × Row) (back : Rows) → AreRising (front ++ e ∷ back) → AllByRecursion (λ d. (e.0).table ≤ (d.0).table) (e ∷ back)
tables_from front e back h = (omega arith, tables_above e.0 back (first_holds _ _ (rise_back front (e ∷ back) h)))
