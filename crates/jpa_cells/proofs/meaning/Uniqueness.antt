-- The rule on unique columns, before a write that can be made.
use Rattle.std.proofs.Common.{◌≡◌, ℕ, ℤ, ◌&&◌, Bool, true, false, List, [], ◌∷◌, refl, sym, ap, ap₂, ◌∙◌, subst, is_eq, int_cmp}
use Rattle.std.specs.List.{AllByRecursion}
use Rattle.std.proofs.lemmas.Cmp.{tied_itself}
use Rattle.std.proofs.lemmas.List.Elements.{All-from_recursion, recursion_from_All}
use Rattle.std.proofs.lemmas.List.Sorted.{All-permutation}
use Rattle.sqlite.specs.declared.types.Value.{Value}
use Rattle.sqlite.specs.declared.types.Value.TheVariants.{Int, Blob}
use Rattle.sqlite.specs.Order.{Row, column, value_cmp}
use Rattle.sqlite.specs.Tree.{Trees, rowid, put_row}
use Rattle.sqlite.specs.Edit.{without_all}
use Rattle.sqlite.specs.Ops.{binary}
use Rattle.sqlite.specs.Collation.TheVariants.{Binary}
use Rattle.sqlite_value.specs.Keys.{plain}
use Rattle.sqlite_value.proofs.OrderLemmas.{value_cmp_total, value_cmp-Int}
use Rattle.sqlite_schema.specs.Rules.{Keeps, agree, differ, equal, passes}
use Rattle.sqlite_schema.specs.declared.schema.Constraint.TheVariants.{Unique}
use Rattle.sqlite_keyed.proofs.ListLemmas.{all_weaker, all_both, all-filter, all_unmap, all_kept, any_from_none}
use Rattle.sqlite_keyed.proofs.SortLemmas.{IsPermutation-sort_by}
use Rattle.jpa_cells.specs.meaning.Schema.{cell_schema, cell_table}
use Rattle.jpa_cells.specs.declared.meaning.Cell.{Cell}
use Rattle.jpa_cells.specs.meaning.Tables.{cell_cmp}
use Rattle.jpa_cells.specs.meaning.Content.{cell_in, int_in, is_of, loose_cells, cells_of, IsCellRow, AreCells}
use Rattle.jpa_cells.proofs.meaning.RowMeaning.{agree_three, equal_int, equal_blob, clashes_none}
use Rattle.jpa_cells.proofs.meaning.Contents.{new_row, turned, cell_cmp_total}
use Rattle.jpa_cells.proofs.meaning.Edits.{all-put, without_filter}

abbrev Clash : Row → Row → Bool
Clash other row = agree plain (1 ∷ 2 ∷ 3 ∷ []) other (1 ∷ 2 ∷ 3 ∷ []) row && differ (rowid other) (rowid row)

-- no two rows of these clash
abbrev AreUnique : List Row → Type 0
AreUnique rows = AllByRecursion (λ row. AllByRecursion (λ other. Clash other row ≡ false) rows) rows

kept_unique : (trees : Trees) → AreUnique (trees 0) → Keeps Unique cell_schema trees
kept_unique trees h =
    (all_weaker _ (λ row. passes Unique cell_schema trees cell_table row ≡ true) (λ row none. rw (any_from_none (λ other. Clash other row) (trees 0) none) refl) (trees 0) h, tt)

-- ---- after a DELETE

pub unique_without : (db next : Trees) (ids : List ℤ) → AreCells (db 0) → Keeps Unique cell_schema db → next 0 ≡ without_all (db 0) ids → Keeps Unique cell_schema next
unique_without db next ids cells unique is =
    kept_unique next (subst AreUnique (sym (is ∙ without_filter ids (db 0)))
    (all-filter _ _ (db 0) (all_weaker _ _ (λ row h. all-filter (λ other. Clash other row ≡ false) _ (db 0) h) (db 0) (clashes_none db cells unique))))

-- ---- after an INSERT

turns : (v w : Value) → is_eq (value_cmp v w) ≡ is_eq (value_cmp w v)
turns v w = ap is_eq (value_cmp_total.antisymm v w) ∙ turned (value_cmp w v)

differs_not : (n : ℤ) → differ (Int n) (Int n) ≡ false
unfolding binary
differs_not n = rw (tied_itself value_cmp_total (Int n)) refl

third : (x y z : Bool) → ((x && y) ≡ true → z ≡ false) → (x && (y && (z && true))) ≡ false
third true true true h = h refl
third true true false h = refl
third true false z h = refl
third false y z h = refl

last_false : (b c : Bool) → c ≡ false → (b && c) ≡ false
last_false true c h = h
last_false false c h = refl

first_false : (b c : Bool) → b ≡ false → (b && c) ≡ false
first_false b c h = ap (λ x. x && c) h

module _ (id table : ℤ) (key : List ℕ) (col : ℤ) (value : List ℕ) where
  abbrev new : Row
  new = new_row id table key col value

  -- where the row has this column, it is of another row of the tables
  abbrev IsFree : Row → Type 0
  IsFree r = is_of table key r ≡ true → is_eq (value_cmp (column r 3) (Int col)) ≡ false

  module _ (r : Row) (h : IsCellRow r) (free : IsFree r) where
    agrees : (agree plain (1 ∷ 2 ∷ 3 ∷ []) r (1 ∷ 2 ∷ 3 ∷ []) new ≡ false)
    agrees =
        agree_three r new
        ∙ ap₂ (λ f g. f && (g && (equal Binary (column r 3) (Int col) && true))) (equal_int (column r 1) (Int table) table refl) (equal_blob (column r 2) (Blob key) key refl)
        ∙ ap (λ x. is_eq (value_cmp (column r 1) (Int table)) && (is_eq (value_cmp (column r 2) (Blob key)) && (x && true))) (equal_int (column r 3) (Int col) col refl)
        ∙ third _ _ _ free

    agreed : (agree plain (1 ∷ 2 ∷ 3 ∷ []) new (1 ∷ 2 ∷ 3 ∷ []) r ≡ false)
    agreed =
        agree_three new r
        ∙ ap₂ (λ f g. f && (g && (equal Binary (Int col) (column r 3) && true))) (equal_int (Int table) (column r 1) h.table (ap (λ x. column x 1) h.is) ∙ turns (Int table) (column r 1)) (equal_blob (Blob key) (column r 2) h.key (ap (λ x. column x 2) h.is) ∙ turns (Blob key) (column r 2))
        ∙ ap (λ x. is_eq (value_cmp (column r 1) (Int table)) && (is_eq (value_cmp (column r 2) (Blob key)) && (x && true))) (equal_int (Int col) (column r 3) h.column (ap (λ x. column x 3) h.is) ∙ turns (Int col) (column r 3))
        ∙ third _ _ _ free

  pub unique_with : (db next : Trees) → AreCells (db 0) → Keeps Unique cell_schema db → AllByRecursion IsFree (db 0) → next 0 ≡ put_row new (db 0) → Keeps Unique cell_schema next
  unique_with db next cells unique free is =
      let rows = db 0 in
      let all = put_row new rows in
      let to_new = all_both IsCellRow IsFree (λ r. Clash r new ≡ false) (λ r h f. first_false _ _ (agrees r h f)) rows cells.each free in
      let from_new = all_both IsCellRow IsFree (λ r. Clash new r ≡ false) (λ r h f. first_false _ _ (agreed r h f)) rows cells.each free in
      let itself : Clash new new ≡ false = last_false _ _ (differs_not id) in
      let old = all_both _ _ (λ row. AllByRecursion (λ other. Clash other row ≡ false) all) (λ row one each. all-put (λ other. Clash other row ≡ false) new rows one each) rows from_new (clashes_none db cells unique) in
      kept_unique next (subst AreUnique (sym is) (all-put (λ row. AllByRecursion (λ other. Clash other row ≡ false) all) new rows (all-put (λ other. Clash other new ≡ false) new rows itself to_new) old))

  at_column : (r : Row) → IsCellRow r → is_eq (value_cmp (column r 3) (Int col)) ≡ is_eq (int_cmp (int_in (column r 3)) col)
  at_column r h = subst (λ x. is_eq (value_cmp (column x 3) (Int col)) ≡ is_eq (int_cmp (int_in (column x 3)) col)) (sym h.is) (ap is_eq (value_cmp-Int h.column col))

  -- a column that no cell of the row has
  pub free_from : (rows : List Row) → AreCells rows → AllByRecursion (λ (c : Cell). is_eq (cell_cmp c (record { column = col; value = value })) ≡ false) (cells_of table key rows) → AllByRecursion IsFree rows
  free_from rows cells none =
      let P = λ (c : Cell). is_eq (cell_cmp c (record { column = col; value = value })) ≡ false in
      let loose = recursion_from_All P (loose_cells table key rows) (All-permutation P _ _ (IsPermutation-sort_by cell_cmp cell_cmp_total (loose_cells table key rows)) (All-from_recursion P (cells_of table key rows) none)) in
      all_both IsCellRow (λ r. is_of table key r ≡ true → P (cell_in r)) IsFree (λ r h free mine. at_column r h ∙ free mine) rows cells.each (all_kept (λ r. P (cell_in r)) (is_of table key) rows (all_unmap P cell_in _ loose))
