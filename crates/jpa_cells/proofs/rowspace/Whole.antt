-- Rows that are read of all tables are those that the tables have.
use Rattle.std.proofs.Common.{◌≡◌, ◌∙◌, refl, sym, ap, subst, ℕ, pos, Bool, true, false, cond, List, [], ◌∷◌, map, length, ◌==◌, eq-eqb}
use Rattle.std.specs.Prelude.{Option, Some, None, is_some}
use Rattle.std.specs.List.{AllByRecursion}
use Rattle.jpa_rows.specs.declared.rows.schema.TableRule.{TableRule}
use Rattle.jpa_rows.specs.rows.Rows.{RowId, Row, Rows, table_of, table_rows, cells_of}
use Rattle.jpa_cells.specs.declared.meaning.Cell.{Cell}
use Rattle.jpa_cells.specs.declared.meaning.CellRow.{CellRow}
use Rattle.jpa_cells.specs.meaning.Tables.{row_of}
use Rattle.jpa_cells.specs.rowspace.Stored.{cell_of, stored_row, IsEntryBy}
use Rattle.jpa_cells.specs.rowspace.Reading.{columns_of, cells_from, SpellsEntry, AreEntries, IsReadBy, ReadsAll}
use Rattle.jpa_cells.proofs.rowspace.Pairs.{spelled_cells}
use Rattle.jpa_cells.proofs.rowspace.Ids.{IsIn}

back : (cells : List Cell) → cells_from (columns_of cells) ≡ cells
back [] = refl
back (c ∷ cells) = ap (λ l. c ∷ l) (back cells)

cells_are : (row : Row) (cells : List Cell) → cells_of row ≡ columns_of cells → cells ≡ map cell_of row
cells_are row cells e = sym (back cells) ∙ ap cells_from (sym e) ∙ spelled_cells row

one_stored : (rule : TableRule) (r : CellRow) (e : RowId × Row) → SpellsEntry rule r e → r ≡ stored_row e
one_stored rule r e h = λ i. row_of (sym h.named.same i) (cells_are e.1 r.cells h.whole.same i)

one_in : (rule : TableRule) (r : CellRow) (e : RowId × Row) → SpellsEntry rule r e → (length r.cells ≡ 0 → ⊥) → IsIn rule e
one_in rule r e h full = record {
  entry = record {
    named = h.named.whole;
    whole = h.whole.whole;
    filled = λ none. full (ap (λ (cs : List Cell). length cs) (cells_are e.1 r.cells h.whole.same) ∙ ap (λ (row : Row). length (map cell_of row)) none);
  };
  own = h.own;
}

all_stored : (rule : TableRule) (stored : List CellRow) (es : Rows) → AreEntries rule stored es → stored ≡ map stored_row es
all_stored rule [] [] h = refl
all_stored rule [] (e ∷ es) h = absurd h
all_stored rule (r ∷ stored) [] h = absurd h
all_stored rule (r ∷ stored) (e ∷ es) h =
    let here = one_stored rule r e ((h.0 e).0 refl) in
    let rest = all_stored rule stored es h.1 in
    λ i. here i ∷ rest i

all_in : (rule : TableRule) (stored : List CellRow) (es : Rows) → AllByRecursion (λ (r : CellRow). length r.cells ≡ 0 → ⊥) stored → AreEntries rule stored es → AllByRecursion (IsIn rule) es
all_in rule [] [] full h = tt
all_in rule [] (e ∷ es) full h = absurd h
all_in rule (r ∷ stored) [] full h = absurd h
all_in rule (r ∷ stored) (e ∷ es) full h = (one_in rule r e ((h.0 e).0 refl) full.0, all_in rule stored es full.1 h.1)

each_in : (o : Option TableRule) (stored : List CellRow) (es : Rows) → IsReadBy o stored es → AllByRecursion (IsEntryBy o) es
each_in None stored es h = subst (AllByRecursion (IsEntryBy None)) (sym h) tt
each_in (Some rule) stored es h = weaker es (all_in rule stored es h.0.full h.1)
  where
    weaker : (es : Rows) → AllByRecursion (IsIn rule) es → AllByRecursion (IsEntryBy (Some rule)) es
    weaker [] k = tt
    weaker (e ∷ es) k = ((k.0).entry, weaker es k.1)

-- what holds of the rows of each table holds of all rows
module _ (Q : ℕ → RowId × Row → Type 0) where
  later : (n : ℕ) (b : Bool) (e : RowId × Row) (es : Rows) → AllByRecursion (Q n) (cond b (e ∷ es) es) → AllByRecursion (Q n) es
  later n true e es h = h.1
  later n false e es h = h

  each_of : (rows : Rows) → ((n : ℕ) → AllByRecursion (Q n) (table_rows n rows)) → AllByRecursion (λ e. Q (e.0).table e) rows
  each_of [] h = tt
  each_of (e ∷ rows) h =
      let n = (e.0).table in
      ((subst (λ b. AllByRecursion (Q n) (cond b (e ∷ table_rows n rows) (table_rows n rows))) (eq-eqb n n refl) (h n)).0, each_of rows (λ m. later m ((e.0).table == m) e (table_rows m rows) (h m)))

table_stored : (o : Option TableRule) (stored : List CellRow) (es : Rows) → is_some o ≡ true → IsReadBy o stored es → stored ≡ map stored_row es
table_stored None stored es some h = absurd (false_not some)
  where
    false_not : false ≡ true → ⊥
    false_not x = cc
table_stored (Some rule) stored es some h = all_stored rule stored es h.1

pub reads_all : ReadsAll
reads_all schema tables rows rising read = (
  record {
    rising = rising;
    each = each_of (λ n. IsEntryBy (table_of schema n)) rows (λ n. each_in (table_of schema n) (tables (pos n)) (table_rows n rows) (read n));
  },
  λ n some. table_stored (table_of schema n) (tables (pos n)) (table_rows n rows) some (read n),
)
