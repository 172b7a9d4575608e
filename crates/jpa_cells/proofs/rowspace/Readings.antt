-- What is read of the cells of rows is those rows.
use Rattle.std.proofs.Common.{◌≡◌, ◌∙◌, refl, sym, subst, ℕ, T, List, [], ◌∷◌, ◌++◌, map, Less}
use Rattle.std.specs.Prelude.{Option, Some, None, ◌≢◌, IfSome}
use Rattle.std.specs.List.{AllByRecursion}
use Rattle.std.specs.FinMap.Entries.{below_all}
use Rattle.std.specs.Ordering.{is_lt}
use Rattle.sqlite.specs.Tree.{IsAscending}
use Rattle.jpa_value.specs.Value.{identity_cmp}
use Rattle.jpa_rows.specs.declared.rows.schema.TableRule.{TableRule}
use Rattle.jpa_rows.specs.rows.Rows.{RowId, Row, Rows, AreRising, IsRowOf}
use Rattle.jpa_rows.proofs.laws.Facts.{both_hold}
use Rattle.jpa_cells.specs.declared.meaning.Cell.{Cell}
use Rattle.jpa_cells.specs.declared.meaning.CellRow.{CellRow}
use Rattle.jpa_cells.specs.meaning.Tables.{key_cmp, AreRows}
use Rattle.jpa_cells.specs.rowspace.Stored.{cells_in, cell_of, stored_row}
use Rattle.jpa_cells.specs.rowspace.Reading.{IsFound, IsIllFormed, SpellsEntry, IsEntry, IsDamaged, AreEntries, AreRead}
use Rattle.jpa_cells.proofs.rowspace.Pairs.{spelled_columns}
use Rattle.jpa_cells.proofs.rowspace.Ids.{IsIn, bytes_order, same_table}

-- ---- one row

found_some : (rule : TableRule) (found : Option Row) (row : Row) → row ≢ [] → IsRowOf rule row → IsFound rule (map cell_of row) found → found ≡ Some row
found_some rule found [] filled whole h = absurd (filled refl)
found_some rule found (f ∷ row) filled whole h = (h.1 (f ∷ row)).1 (record { whole = whole; same = spelled_columns (f ∷ row) })

pub found_is : (rule : TableRule) (cells : List Cell) (found o : Option Row) → cells ≡ cells_in o → IfSome o (λ row. (row ≢ []) × IsRowOf rule row) → IsFound rule cells found → found ≡ o
found_is rule cells found None is h f = subst (λ cs. IsFound rule cs found) is f
found_is rule cells found (Some row) is h f = found_some rule found row h.0 h.1 (subst (λ cs. IsFound rule cs found) is f)

pub well_formed : (rule : TableRule) (cells : List Cell) (o : Option Row) → cells ≡ cells_in o → IfSome o (λ row. (row ≢ []) × IsRowOf rule row) → IsIllFormed rule cells → ⊥
well_formed rule cells None is h ill = ill.some is
well_formed rule cells (Some row) is h ill =
    (subst (IsIllFormed rule) is ill).spells_none row (record { whole = h.1; same = spelled_columns row })

-- ---- a table

pub spells_own : (rule : TableRule) (e : RowId × Row) → IsIn rule e → SpellsEntry rule (stored_row e) e
spells_own rule e h = record {
  own = h.own;
  named = record { whole = h.entry.named; same = refl };
  whole = record { whole = h.entry.whole; same = spelled_columns e.1 };
}

pub entries_are : (rule : TableRule) (es found : Rows) → AllByRecursion (IsIn rule) es → AreEntries rule (map stored_row es) found → found ≡ es
entries_are rule [] [] h f = refl
entries_are rule [] (x ∷ found) h f = absurd f
entries_are rule (e ∷ es) [] h f = absurd f
entries_are rule (e ∷ es) (x ∷ found) h f =
    let here : x ≡ e = (f.0 e).1 (spells_own rule e h.0) in
    let rest = entries_are rule es found h.1 f.1 in
    λ i. here i ∷ rest i

nil_not : {X : Type 0} (before : List X) (x : X) (after : List X) → [] ≡ before ++ x ∷ after → ⊥
nil_not [] x after e = cc
nil_not (b ∷ before) x after e = cc

head_of : {X : Type 0} (d x y : X) (xs ys : List X) → x ∷ xs ≡ y ∷ ys → x ≡ y
head_of d x y xs ys e = cc

tail_of : {X : Type 0} (x y : X) (xs ys : List X) → x ∷ xs ≡ y ∷ ys → xs ≡ ys
tail_of x y xs ys e = cc

none_damaged : (rule : TableRule) (es : Rows) (before : List CellRow) (r : CellRow) (after : List CellRow) → AllByRecursion (IsIn rule) es → map stored_row es ≡ before ++ r ∷ after → IsDamaged rule r → ⊥
none_damaged rule [] before r after h e d = nil_not before r after e
none_damaged rule (x ∷ es) [] r after h e d = d x (subst (λ s. SpellsEntry rule s x) (head_of r (stored_row x) r (map stored_row es) after e) (spells_own rule x h.0))
none_damaged rule (x ∷ es) (b ∷ before) r after h e d = none_damaged rule es before r after h.1 (tail_of (stored_row x) b (map stored_row es) (before ++ r ∷ after) e) d

pub whole_read : (rule : TableRule) (es found : Rows) (bytes : List ℕ) → AllByRecursion (IsIn rule) es → AreRead rule (map stored_row es) found (Some bytes) → ⊥
whole_read rule es found bytes h d = none_damaged rule es d.0 d.1 d.2 h d.3 d.5

pub entries_last : (rule : TableRule) (stored : List CellRow) (rows : Rows) (s : CellRow) (e : RowId × Row) → AreEntries rule stored rows → IsEntry rule s e → AreEntries rule (stored ++ s ∷ []) (rows ++ e ∷ [])
entries_last rule [] [] s e h k = (k, tt)
entries_last rule [] (x ∷ rows) s e h k = absurd h
entries_last rule (r ∷ stored) [] s e h k = absurd h
entries_last rule (r ∷ stored) (x ∷ rows) s e h k = (h.0, entries_last rule stored rows s e h.1 k)

-- ---- ids rise as their bytes do

below : (rule : TableRule) (r : CellRow) (e : RowId × Row) → SpellsEntry rule r e → (stored : List CellRow) (es : Rows) → AllByRecursion (λ s. key_cmp r.row s.row ≡ Less) stored
    → AreEntries rule stored es → T (below_all identity_cmp e.0 es)
below rule r e h [] [] up f = tt
below rule r e h [] (x ∷ es) up f = absurd f
below rule r e h (s ∷ stored) [] up f = absurd f
below rule r e h (s ∷ stored) (x ∷ es) up f =
    let k : SpellsEntry rule s x = (f.0 x).0 refl in
    let less : identity_cmp e.0 x.0 ≡ Less =
    same_table e.0 x.0 (h.own ∙ sym k.own) ∙ sym (bytes_order rule.key (e.0).key (x.0).key h.named.whole k.named.whole)
    ∙ (λ i. key_cmp (h.named.same i) (k.named.same i)) ∙ up.0 in
    both_hold (is_lt (identity_cmp e.0 x.0)) _ (subst (λ o. T (is_lt o)) (sym less) tt) (below rule r e h stored es up.1 f.1)

rises : (rule : TableRule) (stored : List CellRow) (es : Rows) → IsAscending (λ (a b : CellRow). key_cmp a.row b.row ≡ Less) stored → AreEntries rule stored es → AreRising es
rises rule [] [] up f = tt
rises rule [] (x ∷ es) up f = absurd f
rises rule (r ∷ stored) [] up f = absurd f
rises rule (r ∷ stored) (e ∷ es) up f =
    both_hold (below_all identity_cmp e.0 es) _ (below rule r e ((f.0 e).0 refl) stored es up.0 f.1) (rises rule stored es up.1 f.1)

all_front : {X : Type 0} (P : X → Type 0) (before : List X) (x : X) (after : List X) → AllByRecursion P (before ++ x ∷ after) → AllByRecursion P before
all_front P [] x after h = tt
all_front P (b ∷ before) x after h = (h.0, all_front P before x after h.1)

ascending_front : {X : Type 0} (R : X → X → Type 0) (before : List X) (x : X) (after : List X) → IsAscending R (before ++ x ∷ after) → IsAscending R before
ascending_front R [] x after h = tt
ascending_front R (b ∷ before) x after h = (all_front (R b) before x after h.0, ascending_front R before x after h.1)

pub read_rises : (rule : TableRule) (stored : List CellRow) (es : Rows) (damaged : Option (List ℕ)) → AreRows stored → AreRead rule stored es damaged → AreRising es
read_rises rule stored es None up f = rises rule stored es up.rise f
read_rises rule stored es (Some bytes) up f =
    rises rule f.0 es (ascending_front (λ (a b : CellRow). key_cmp a.row b.row ≡ Less) f.0 f.1 f.2 (subst (IsAscending (λ (a b : CellRow). key_cmp a.row b.row ≡ Less)) f.3 up.rise)) f.4
