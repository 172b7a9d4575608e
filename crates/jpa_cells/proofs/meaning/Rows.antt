-- The tables that the database stands for, before and after changes.
use Rattle.std.proofs.Common.{◌≡◌, ◌&&◌, inl, inr, ℕ, ℤ, Bool, true, false, not, cond, List, [], ◌∷◌, length, fold, refl, sym, ap, ap₂, ◌∙◌, subst, Ordering, Less, Equal, Greater, is_eq, is_gt, int_cmp, true≢false, arith}
use Rattle.std.specs.List.{AllByRecursion}
use Rattle.std.specs.Ordering.{match_ordering, ordering_reverse}
use Rattle.std.specs.FinMap.{nat_cmp-IsAntisymmetric, slice_cmp-IsAntisymmetric}
use Rattle.std.proofs.lemmas.Bool.{cases_Bool}
use Rattle.std.proofs.lemmas.Cmp.{tied_itself, nat_list_cmp_total}
use Rattle.sqlite.specs.Tree.{IsAscending}
use Rattle.sqlite.specs.Effect.{Database}
use Rattle.sqlite_keyed.specs.Lists.{insert_sorted}
use Rattle.sqlite_keyed.proofs.ListLemmas.{all_weaker, all_both, all-filter, ascending-filter}
use Rattle.sqlite_schema.specs.declared.schema.Constraint.TheVariants.{Unique}
use Rattle.jpa_cells.proofs.meaning.RowMeaning.{tie}
use Rattle.jpa_cells.specs.declared.meaning.Cell.{Cell}
use Rattle.jpa_cells.specs.declared.meaning.CellRow.{CellRow}
use Rattle.jpa_cells.specs.declared.meaning.CellChange.{CellChange}
use Rattle.jpa_cells.specs.meaning.Tables.{Tables, row_of, key_cmp, cell_cmp, cells_at, placed, with_row, without_row, rows_after, changed, tables_after, AreRows}
use Rattle.jpa_cells.specs.meaning.Content.{Contents, content, replaced, contents_after, tables_of, entries_of, grouped, HoldsCells}
use Rattle.jpa_cells.proofs.meaning.Entries.{entries_rise, cells_under}
use Rattle.jpa_cells.proofs.meaning.Groups.{Shows, rows_grouped}
use Rattle.jpa_cells.proofs.meaning.Contents.{turned, cell_cmp_total, no_ties}
use Rattle.jpa_cells.proofs.meaning.Sorts.{rises-sort}
use Rattle.jpa_cells.proofs.meaning.Laws.{obeys, cells_in}

abbrev pub same : List ℕ → List ℕ → Bool
same a b = is_eq (key_cmp a b)

pub equal : (a b : List ℕ) → same a b ≡ true → a ≡ b
equal a b h = slice_cmp-IsAntisymmetric nat_cmp-IsAntisymmetric a b (tie _ h)

pub itself : (a : List ℕ) → same a a ≡ true
itself a = ap is_eq (tied_itself nat_list_cmp_total a)

pub either_way : (a b : List ℕ) → same a b ≡ same b a
either_way a b = ap is_eq (nat_list_cmp_total.antisymm a b) ∙ turned (key_cmp b a)

below : (a b : List ℕ) → key_cmp a b ≡ Less → same a b ≡ false
below a b h = ap is_eq h

abbrev Rise : List CellRow → Type 0
Rise = IsAscending (λ (a b : CellRow). key_cmp a.row b.row ≡ Less)

abbrev Full : CellRow → Type 0
Full r = length r.cells ≡ 0 → ⊥

none_at : (key : List ℕ) (rows : List CellRow) → AllByRecursion (λ (r : CellRow). key_cmp key r.row ≡ Less) rows → cells_at key rows ≡ []
none_at key [] all = refl
none_at key (r ∷ rows) all = ap (λ o. cond (is_eq o) r.cells (cells_at key rows)) all.0 ∙ none_at key rows all.1

first_at : (r : CellRow) (rows : List CellRow) → cells_at r.row (r ∷ rows) ≡ r.cells
first_at r rows = ap (λ b. cond b r.cells (cells_at r.row rows)) (itself r.row)

later_at : (key : List ℕ) (r : CellRow) (rows : List CellRow) → same key r.row ≡ false → cells_at key (r ∷ rows) ≡ cells_at key rows
later_at key r rows h = ap (λ b. cond b r.cells (cells_at key rows)) h

all_above : (a : List ℕ) (r : CellRow) (rows : List CellRow) → key_cmp a r.row ≡ Less → Rise (r ∷ rows) → AllByRecursion (λ (x : CellRow). key_cmp a x.row ≡ Less) (r ∷ rows)
all_above a r rows h up = (h, all_weaker (λ (x : CellRow). key_cmp r.row x.row ≡ Less) (λ (x : CellRow). key_cmp a x.row ≡ Less) (λ x. nat_list_cmp_total.trans a r.row x.row h) rows up.0)

-- rows that answer alike are the same
pub rows_unique : (xs ys : List CellRow) → Rise xs → Rise ys → AllByRecursion Full xs → AllByRecursion Full ys → ((key : List ℕ) → cells_at key xs ≡ cells_at key ys) → xs ≡ ys
rows_unique [] [] up up' full full' alike = refl
rows_unique [] (y ∷ ys) up up' full full' alike = absurd (full'.0 (ap length (sym (first_at y ys) ∙ sym (alike y.row))))
rows_unique (x ∷ xs) [] up up' full full' alike = absurd (full.0 (ap length (sym (first_at x xs) ∙ alike x.row)))
rows_unique (x ∷ xs) (y ∷ ys) up up' full full' alike = go (key_cmp x.row y.row) refl (rows_unique xs ys up.1 up'.1 full.1 full'.1)
  where
    go : (o : Ordering) → key_cmp x.row y.row ≡ o → (((key : List ℕ) → cells_at key xs ≡ cells_at key ys) → xs ≡ ys) → x ∷ xs ≡ y ∷ ys
    go Less e more = absurd (full.0 (ap length (sym (first_at x xs) ∙ alike x.row ∙ none_at x.row (y ∷ ys) (all_above x.row y ys e up'))))
    go Greater e more =
        let e' : key_cmp y.row x.row ≡ Less = nat_list_cmp_total.antisymm y.row x.row ∙ ap ordering_reverse e in
        absurd (full'.0 (ap length (sym (first_at y ys) ∙ sym (alike y.row) ∙ none_at y.row (x ∷ xs) (all_above y.row x xs e' up))))
    go Equal e more =
        let keys : x.row ≡ y.row = equal x.row y.row (ap is_eq e) in
        let cells : x.cells ≡ y.cells = sym (first_at x xs) ∙ alike x.row ∙ ap (λ k. cells_at k (y ∷ ys)) keys ∙ first_at y ys in
        let first : x ≡ y = λ i. row_of (keys i) (cells i) in
        λ i. first i ∷ more rest i
      where
        rest : (key : List ℕ) → cells_at key xs ≡ cells_at key ys
        rest key = elim (cases_Bool (same key x.row)) [
          | inl here ↦
              let is : key ≡ x.row = equal key x.row here in
              let is' : key ≡ y.row = is ∙ equal x.row y.row (ap is_eq e) in
              subst (λ k. cells_at k xs ≡ []) (sym is) (none_at x.row xs up.0) ∙ sym (subst (λ k. cells_at k ys ≡ []) (sym is') (none_at y.row ys up'.0))
          | inr other ↦
              let other' : same key y.row ≡ false = ap (same key) (sym (equal x.row y.row (ap is_eq e))) ∙ other in
              sym (later_at key x xs other) ∙ alike key ∙ later_at key y ys other'
        ]

-- ---- a row is put in its place

abbrev Put : Ordering → CellRow → CellRow → List CellRow → List CellRow
Put o new r rows = match_ordering o (r ∷ with_row new rows) (new ∷ rows) (new ∷ r ∷ rows)

all-put : (P : CellRow → Type 0) (new : CellRow) (rows : List CellRow) → P new → AllByRecursion P rows → AllByRecursion P (with_row new rows)
all-put P new [] h all = (h, tt)
all-put P new (r ∷ rows) h all =
    elim (key_cmp r.row new.row) as (λ o. AllByRecursion P (Put o new r rows)) [ Less ↦ (all.0, all-put P new rows h all.1) | Equal ↦ (h, all.1) | Greater ↦ (h, all) ]

put_rises : (new : CellRow) (rows : List CellRow) → Rise rows → Rise (with_row new rows)
put_rises new [] up = (tt, tt)
put_rises new (r ∷ rows) up = go (key_cmp r.row new.row) refl (put_rises new rows up.1)
  where
    go : (o : Ordering) → key_cmp r.row new.row ≡ o → Rise (with_row new rows) → Rise (Put o new r rows)
    go Less e more = (all-put (λ (b : CellRow). key_cmp r.row b.row ≡ Less) new rows e up.0, more)
    go Equal e more = (all_weaker (λ (b : CellRow). key_cmp r.row b.row ≡ Less) (λ (b : CellRow). key_cmp new.row b.row ≡ Less) (λ b h. sym (nat_list_cmp_total.congr r.row new.row b.row e) ∙ h) rows up.0, up.1)
    go Greater e more = (all_above new.row r rows (nat_list_cmp_total.antisymm new.row r.row ∙ ap ordering_reverse e) up, up)

-- of two tests that can't both pass, either may come first
tests_swap : {X : Type 0} (a b : Bool) (x y z : X) → (a ≡ true → b ≡ true → ⊥) → cond a x (cond b y z) ≡ cond b y (cond a x z)
tests_swap true true x y z apart = absurd (apart refl refl)
tests_swap true false x y z apart = refl
tests_swap false true x y z apart = refl
tests_swap false false x y z apart = refl

test_twice : {X : Type 0} (a b : Bool) (x y z : X) → a ≡ b → cond a x z ≡ cond a x (cond b y z)
test_twice true b x y z is = refl
test_twice false true x y z is = absurd (true≢false (sym is))
test_twice false false x y z is = refl

pub put_at : (key : List ℕ) (new : CellRow) (rows : List CellRow) → cells_at key (with_row new rows) ≡ cond (same key new.row) new.cells (cells_at key rows)
put_at key new [] = refl
put_at key new (r ∷ rows) = go (key_cmp r.row new.row) refl (put_at key new rows)
  where
    go : (o : Ordering) → key_cmp r.row new.row ≡ o → cells_at key (with_row new rows) ≡ cond (same key new.row) new.cells (cells_at key rows)
        → cells_at key (Put o new r rows) ≡ cond (same key new.row) new.cells (cond (same key r.row) r.cells (cells_at key rows))
    go Less e more =
        ap (λ l. cond (same key r.row) r.cells l) more
        ∙ tests_swap (same key r.row) (same key new.row) r.cells new.cells (cells_at key rows)
        (λ p q. true≢false (sym (subst (λ k. same r.row k ≡ true) (sym (equal key r.row p) ∙ equal key new.row q) (itself r.row)) ∙ below r.row new.row e))
    go Equal e more = test_twice (same key new.row) (same key r.row) new.cells r.cells (cells_at key rows) (ap (same key) (sym (equal r.row new.row (ap is_eq e))))
    go Greater e more = refl

-- ---- a row is dropped

pub without_at : (key out : List ℕ) (rows : List CellRow) → cells_at key (without_row out rows) ≡ cond (same key out) [] (cells_at key rows)
without_at key out [] = elim (same key out) as (λ b. ◌≡◌ {A = List Cell} [] (cond b [] [])) [ true ↦ refl | false ↦ refl ]
without_at key out (r ∷ rows) = go (same out r.row) refl (without_at key out rows)
  where
    go : (b : Bool) → same out r.row ≡ b → cells_at key (without_row out rows) ≡ cond (same key out) [] (cells_at key rows)
        → cells_at key (cond (not b) (r ∷ without_row out rows) (without_row out rows)) ≡ cond (same key out) [] (cond (same key r.row) r.cells (cells_at key rows))
    go true e more = more ∙ test_twice (same key out) (same key r.row) [] r.cells (cells_at key rows) (ap (same key) (equal out r.row e))
    go false e more =
        ap (λ l. cond (same key r.row) r.cells l) more
        ∙ tests_swap (same key r.row) (same key out) r.cells [] (cells_at key rows)
        (λ p q. true≢false (sym (subst (λ k. same out k ≡ true) (sym (equal key out q) ∙ equal key r.row p) (itself out)) ∙ e))

-- ---- a change

inserted_some : (cell : Cell) (cells : List Cell) → length (insert_sorted cell_cmp cell cells) ≡ 0 → ⊥
inserted_some cell [] h = omega (arith, h)
inserted_some cell (x ∷ cells) h = go (is_gt (cell_cmp cell x)) h
  where
    go : (b : Bool) → length (cond b (x ∷ insert_sorted cell_cmp cell cells) (cell ∷ x ∷ cells)) ≡ 0 → ⊥
    go true h = omega (arith, h)
    go false h = omega (arith, h)

folded_some : (sorted cells : List Cell) → (length sorted ≡ 0 → ⊥) → length (fold (λ sorted cell. insert_sorted cell_cmp cell sorted) sorted cells) ≡ 0 → ⊥
folded_some sorted [] some = some
folded_some sorted (cell ∷ cells) some = folded_some (insert_sorted cell_cmp cell sorted) cells (inserted_some cell sorted)

row_changed : (key : List ℕ) (cells : List Cell) (all : List ℕ → List Cell) (rows : List CellRow) → Shows all rows → Shows (λ k. cond (same key k) (placed cells) (all k)) (rows_after key cells rows)
row_changed key [] all rows h = record {
  rise = ascending-filter _ (λ (r : CellRow). not (same key r.row)) rows h.rise;
  full = all-filter Full (λ (r : CellRow). not (same key r.row)) rows h.full;
  same = λ k. without_at k key rows ∙ ap₂ (λ b l. cond b [] l) (either_way k key) (h.same k);
}
row_changed key (cell ∷ cells) all rows h =
    let new = row_of key (placed (cell ∷ cells)) in
    record {
      rise = put_rises new rows h.rise;
      full = all-put Full new rows (folded_some (cell ∷ []) cells (λ n. omega (arith, n))) h.full;
      same = λ k. put_at k new rows ∙ ap₂ (λ b l. cond b (placed (cell ∷ cells)) l) (either_way k key) (h.same k);
    }

changes_show : (changes : List CellChange) (all : Contents) (tables : Tables) → ((t : ℤ) → Shows (all t) (tables t)) → (t : ℤ) → Shows (contents_after changes all t) (tables_after changes tables t)
changes_show [] all tables h t = h t
changes_show (change ∷ changes) all tables h t = changes_show changes (replaced change all) (changed change tables) (λ u. one u (is_eq (int_cmp change.table u))) t
  where
    one : (u : ℤ) (b : Bool) → Shows (λ k. cond (b && same change.row k) (placed change.cells) (all u k)) (cond b (rows_after change.row change.cells (tables u)) (tables u))
    one u true = row_changed change.row change.cells (all u) (tables u) (h u)
    one u false = h u

-- ---- of the database

pub shows : (db : Database) → HoldsCells db → (t : ℤ) → Shows (content db t) (tables_of db t)
shows db h t =
    let cells = cells_in db h in
    let unique = obeys db h Unique in
    let it = rows_grouped (entries_of t (db.trees 0)) (entries_rise db.trees cells unique t) in
    record { rise = it.rise; full = it.full; same = λ k. it.same k ∙ cells_under db.trees cells unique t k }

pub cells_found : (db : Database) → HoldsCells db → (t : ℤ) (k : List ℕ) → content db t k ≡ cells_at k (tables_of db t)
cells_found db h t k = sym ((shows db h t).same k)

own_cells : (rows : List CellRow) → Rise rows → AllByRecursion (λ (r : CellRow). cells_at r.row rows ≡ r.cells) rows
own_cells [] up = tt
own_cells (r ∷ rows) up = (
  first_at r rows,
  all_both (λ (x : CellRow). key_cmp r.row x.row ≡ Less) (λ (x : CellRow). cells_at x.row rows ≡ x.cells) (λ (x : CellRow). cells_at x.row (r ∷ rows) ≡ x.cells)
      (λ x p q. later_at x.row r rows (either_way x.row r.row ∙ below r.row x.row p) ∙ q) rows up.0 (own_cells rows up.1),
)

-- the rows of a table rise, none lacks cells, and the columns of each rise
pub are_rows : (db : Database) → HoldsCells db → (t : ℤ) → AreRows (tables_of db t)
are_rows db h t =
    let it = shows db h t in
    record {
      rise = it.rise;
      full = it.full;
      columns = all_weaker (λ (r : CellRow). cells_at r.row (tables_of db t) ≡ r.cells) _
          (λ r own. subst (IsAscending (λ a b. cell_cmp a b ≡ Less)) (sym (it.same r.row) ∙ own) (rises-sort cell_cmp cell_cmp_total _ (no_ties db.trees (cells_in db h) (obeys db h Unique) t r.row))) (tables_of db t) (own_cells (tables_of db t) it.rise);
    }

pub tables_changed : (old new : Database) → HoldsCells old → HoldsCells new → (changes : List CellChange) → ((t : ℤ) (k : List ℕ) → content new t k ≡ contents_after changes (content old) t k)
    → tables_of new ≡ tables_after changes (tables_of old)
tables_changed old new was is changes same =
    let one : (t : ℤ) → tables_of new t ≡ tables_after changes (tables_of old) t =
    λ t. let a = shows new is t in let b = changes_show changes (content old) (tables_of old) (shows old was) t in
    rows_unique _ _ a.rise b.rise a.full b.full (λ k. a.same k ∙ same t k ∙ sym (b.same k)) in
    λ i t. one t i

-- with no row of the database no table has one
pub tables_empty : (db : Database) → db.trees 0 ≡ [] → tables_of db ≡ (λ t. [])
tables_empty db none = λ i t. grouped (entries_of t (none i))
