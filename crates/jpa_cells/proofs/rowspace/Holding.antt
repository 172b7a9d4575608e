-- What a call leaves of the rows that a store holds, and what it answers while it holds them.
use Rattle.std.proofs.Common.{◌≡◌, ◌∙◌, ◌⊎◌, ◌<◌, inl, inr, refl, sym, ap, subst, arith, ℕ, pos, Bool, true, false, cond, List, [], ◌∷◌, length, ◌==◌, T, eqb→eq}
use Rattle.std.specs.Prelude.{⊤, Result, Ok, Err, OnOk, OnErr, IfOk, IfErr, Option, Some, None, IsErr, IsSome, IfSome, is_some}
use Rattle.std.specs.List.{AllByRecursion}
use Rattle.std.specs.FinMap.{find}
use Rattle.sqlite_trees.specs.declared.store.Store.{Ghosts}
use Rattle.sqlite.specs.Held.{Held}
use Rattle.jpa_value.specs.declared.refusal.Cause.{Cause}
use Rattle.jpa_value.specs.declared.value.Value.{Value}
use Rattle.jpa_value.specs.Value.{identity_cmp}
use Rattle.jpa_rows.specs.keys.Keys.{key_bytes}
use Rattle.jpa_rows.specs.declared.rows.row.RowChange.{RowChange}
use Rattle.jpa_rows.specs.declared.rows.schema.TableRule.{TableRule}
use Rattle.jpa_rows.specs.declared.rows.schema.Schema.{Schema}
use Rattle.jpa_rows.specs.rows.Rows.{RowId, Row, Rows, is_key, table_of, table_rows, rows_after, AreChanges}
use Rattle.jpa_rows.specs.laws.Handing.{Hands}
use Rattle.jpa_rows.proofs.laws.Handing.{hands_cut}
use Rattle.jpa_rows.proofs.laws.Facts.{some_none, value_in}
use Rattle.jpa_cells.specs.declared.meaning.Cell.{Cell}
use Rattle.jpa_cells.specs.declared.meaning.CellChange.{CellChange}
use Rattle.jpa_cells.specs.declared.meaning.CellRow.{CellRow}
use Rattle.jpa_cells.specs.meaning.Tables.{Tables, cells_at, tables_after}
use Rattle.jpa_cells.specs.meaning.Store.{IsClean, IsOpen, tables_in, Keeps, Becomes, Endures}
use Rattle.jpa_cells.specs.rowspace.Stored.{cells_in, cell_changes, table_if, table_for, IsEntryBy, AreRowsOf, AreStored}
use Rattle.jpa_cells.specs.rowspace.Reading.{IsFound, IsIllFormed, ReadsRow}
use Rattle.jpa_cells.specs.rowspace.Space.{HoldsRows, IsStoreCause}
use Rattle.jpa_cells.specs.rowspace.Enduring.{EnduresRows, endures_weaker}
pub use Rattle.jpa_cells.specs.rowspace.Enduring.{endures_self}
use Rattle.jpa_cells.proofs.rowspace.Ids.{numbered, in_table, sought, absent, cells_found, found_in}
use Rattle.jpa_cells.proofs.rowspace.HandedRows.{whole, some_rows}
use Rattle.jpa_cells.proofs.rowspace.Readings.{found_is, well_formed}
use Rattle.jpa_cells.proofs.rowspace.After.{whole_after, stored_after}

-- ---- the table of an id

table_in : (o : Option TableRule) (key : List Value) (rule : TableRule) → table_if o key ≡ Some rule → (o ≡ Some rule) × (is_key rule.key key ≡ true)
table_in None key rule e = absurd (some_none rule (sym e))
table_in (Some r) key rule e =
    elim (is_key r.key key) as (λ b. is_key r.key key ≡ b → cond b (Some r) None ≡ Some rule → (Some r ≡ Some rule) × (is_key rule.key key ≡ true)) [
      | true ↦ λ h f. let same = value_in r rule f in (ap Some same, subst (λ (t : TableRule). is_key t.key key ≡ true) same h)
      | false ↦ λ h f. absurd (some_none rule (sym f))
    ] refl e

pub table_is : (schema : Schema) (id : RowId) (rule : TableRule) → table_for schema id ≡ Some rule → (table_of schema id.table ≡ Some rule) × (is_key rule.key id.key ≡ true)
table_is schema id rule e = table_in (table_of schema id.table) id.key rule e

no_entry : (o : Option TableRule) (id : RowId) (row : Row) → table_if o id.key ≡ None → IsEntryBy o (id, row) → ⊥
no_entry None id row e h = h
no_entry (Some rule) id row e h = some_none rule (sym (ap (λ b. cond b (Some rule) None) h.named) ∙ e)

absent_for : (schema : Schema) (id : RowId) → table_for schema id ≡ None → (rows : Rows) → AreRowsOf schema rows → find identity_cmp id rows ≡ None
absent_for schema id e rows whole = absent schema id (λ row h. no_entry (table_of schema id.table) id row e h) rows whole.each

none_in : (schema : Schema) (n : ℕ) → table_of schema n ≡ None → (rows : Rows) → AllByRecursion (λ e. IsEntryBy (table_of schema (e.0).table) e) rows → table_rows n rows ≡ []
none_in schema n is [] h = refl
none_in schema n is (e ∷ rows) h =
    elim ((e.0).table == n) as (λ b. (e.0).table == n ≡ b → cond b (e ∷ table_rows n rows) (table_rows n rows) ≡ []) [
      | true ↦ λ t. absurd (subst (λ o. IsEntryBy o e) (ap (table_of schema) (eqb→eq (e.0).table n (subst T (sym t) tt)) ∙ is) h.0)
      | false ↦ λ t. none_in schema n is rows h.1
    ] refl

ok_in : {A E : Type 0} (r : Result A E) (x y : A) → r ≡ Ok x → r ≡ Ok y → x ≡ y
ok_in r x y e f = cc

err_not : {A E : Type 0} (r : Result A E) (e : E) (y : A) → r ≡ Err e → r ≡ Ok y → ⊥
err_not r e y h f = cc

module _ {S : Type 0} (g : Ghosts S) where
  -- no fault is forgotten
  pub clean_before : (old new : Held S) (Commits : Tables → Type 0) → Endures g old new Commits → IsClean g new → IsClean g old
  clean_before old new Commits e clean = let le = e.clean in omega (arith, le, clean)

  pub keeps_rows : (schema : Schema) (old new : Held S) (Commits : Tables → Type 0) → Keeps g old new → Endures g old new Commits → (rows : Rows) → HoldsRows g schema old rows → HoldsRows g schema new rows
  keeps_rows schema old new Commits kept e rows held = record {
    whole = λ clean. held.whole (clean_before old new Commits e clean);
    stored = λ clean open_.
        let k = kept clean open_ in
        subst (λ tables. AreStored schema tables rows) (sym k.1) (held.stored (clean_before old new Commits e clean) k.0);
  }

  -- ---- get

  module _ (schema : Schema) (id : RowId) (old : Held S) (rows : Rows) (held : HoldsRows g schema old rows) (rule : TableRule) (is : table_for schema id ≡ Some rule) (clean : IsClean g old) (open_ : IsOpen g old) where
    here : table_of schema id.table ≡ Some rule
    here = (table_is schema id rule is).0

    cells_are : cells_at (key_bytes id.key) (tables_in g old (pos id.table)) ≡ cells_in (find identity_cmp id (table_rows id.table rows))
    cells_are =
        ap (cells_at (key_bytes id.key)) (held.stored clean open_ id.table (ap is_some here))
        ∙ cells_found rule id (table_is schema id rule is).1 (sym (numbered schema id.table rule here)) (table_rows id.table rows) (in_table schema id.table rule here rows (held.whole clean).each)

    pub found_held : (found : Option Row) → IsFound rule (cells_at (key_bytes id.key) (tables_in g old (pos id.table))) found → found ≡ find identity_cmp id rows
    found_held found f =
        found_is rule _ found (find identity_cmp id (table_rows id.table rows)) cells_are (found_in rule id (table_rows id.table rows) (in_table schema id.table rule here rows (held.whole clean).each)) f
        ∙ sym (sought id rows)

    pub not_ill_formed : IsIllFormed rule (cells_at (key_bytes id.key) (tables_in g old (pos id.table))) → ⊥
    not_ill_formed ill =
        well_formed rule _ (find identity_cmp id (table_rows id.table rows)) cells_are (found_in rule id (table_rows id.table rows) (in_table schema id.table rule here rows (held.whole clean).each)) ill

  module _ (schema : Schema) (id : RowId) (old new : Held S) where
    abbrev At : Tables → List Cell
    At tables = cells_at (key_bytes id.key) (tables (pos id.table))

    pub gets : (r : Result (Option Row) Cause) → (IsClean g new → IfOk r (λ found. IfSome (table_for schema id) (λ table. IsFound table (At (tables_in g old)) found)))
        → (table_for schema id ≡ None → r ≡ Ok None) → (IsClean g new → IsSome (table_for schema id) → OnOk r (IsOpen g old × IsOpen g new)) → (IsClean g new → IsClean g old)
        → IsClean g new → IfOk r (λ row. (rows : Rows) → HoldsRows g schema old rows → row ≡ find identity_cmp id rows)
    gets (Err e) found unknown open_ before clean = tt
    gets (Ok row) found unknown open_ before clean = λ rows held. by rows held (table_for schema id) refl
      where
        by : (rows : Rows) → HoldsRows g schema old rows → (o : Option TableRule) → table_for schema id ≡ o → row ≡ find identity_cmp id rows
        by rows held None is = ok_in (Ok row) row None refl (unknown is) ∙ sym (absent_for schema id is rows (held.whole (before clean)))
        by rows held (Some rule) is =
            found_held schema id old rows held rule is (before clean) (open_ clean (ap is_some is)).0 row (subst (λ o. IfSome o (λ table. IsFound table (At (tables_in g old)) row)) is (found clean))

    pub gets_err : (r : Result (Option Row) Cause)
        → IfErr r (λ cause. IsStoreCause cause ⊎ ((cause ≡ Cause.Damaged id.table (key_bytes id.key)) × (IsClean g new → IfSome (table_for schema id) (λ table. IsOpen g old × IsOpen g new × IsIllFormed table (At (tables_in g old))))))
        → (table_for schema id ≡ None → r ≡ Ok None) → (IsClean g new → IsClean g old)
        → IsClean g new → IfErr r (λ cause. (rows : Rows) → HoldsRows g schema old rows → IsStoreCause cause)
    gets_err (Ok row) refused unknown before clean = tt
    gets_err (Err cause) (inl told) unknown before clean = λ rows held. told
    gets_err (Err cause) (inr damaged) unknown before clean = λ rows held. by rows held (table_for schema id) refl
      where
        by : (rows : Rows) → HoldsRows g schema old rows → (o : Option TableRule) → table_for schema id ≡ o → IsStoreCause cause
        by rows held None is = absurd (err_not (Err cause) cause None refl (unknown is))
        by rows held (Some rule) is =
            let d = subst (λ o. IfSome o (λ table. IsOpen g old × IsOpen g new × IsIllFormed table (At (tables_in g old)))) is (damaged.1 clean) in
            absurd (not_ill_formed schema id old rows held rule is (before clean) d.0 d.2)

  -- ---- rows one at a time

  module _ (schema : Schema) (n : ℕ) (old new : Held S) {K : Type 0} (Takes : K → RowId × Row → Result Bool Cause → K → Type 0) (a b : K) (r : Result Bool Cause) where
    abbrev pub EachBy : TableRule → Type 0
    EachBy rule = (stored : List CellRow) × (IsClean g new → (IsOpen g old × (stored ≡ tables_in g old (pos n))) ⊎ (IsErr r × (stored ≡ []))) × Hands (ReadsRow Takes rule) IsStoreCause a stored r b

    module _ {X : Type 0} (each : IfSome (table_of schema n) EachBy) (unknown : table_of schema n ≡ None → (r ≡ Ok true) × X × (b ≡ a)) where
      pub each_some : (found : Rows) × Hands Takes (λ _. ⊤) a found r b
      each_some = by (table_of schema n) refl
        where
          by : (o : Option TableRule) → table_of schema n ≡ o → (found : Rows) × Hands Takes (λ _. ⊤) a found r b
          by None is = let none = unknown is in ([], (inl none.0, none.2))
          by (Some rule) is = let h = subst (λ o. IfSome o EachBy) is each in some_rows Takes rule h.0 a r b h.2

      pub each_held : (IsClean g new → IsClean g old) → IsClean g new → (rows : Rows) → HoldsRows g schema old rows → Hands Takes IsStoreCause a (table_rows n rows) r b
      each_held before clean rows held = by (table_of schema n) refl
        where
          whole_rows : AllByRecursion (λ e. IsEntryBy (table_of schema (e.0).table) e) rows
          whole_rows = (held.whole (before clean)).each

          by : (o : Option TableRule) → table_of schema n ≡ o → Hands Takes IsStoreCause a (table_rows n rows) r b
          by None is = let none = unknown is in subst (λ rs. Hands Takes IsStoreCause a rs r b) (sym (none_in schema n is rows whole_rows)) (inl none.0, none.2)
          by (Some rule) is = go (h.1 clean)
            where
              h : EachBy rule
              h = subst (λ o. IfSome o EachBy) is each

              go : (IsOpen g old × (h.0 ≡ tables_in g old (pos n))) ⊎ (IsErr r × (h.0 ≡ [])) → Hands Takes IsStoreCause a (table_rows n rows) r b
              go (inl live) =
                  let stored = live.1 ∙ held.stored (before clean) live.0 n (ap is_some is) in
                  whole Takes rule (table_rows n rows) (in_table schema n rule is rows whole_rows) a r b (subst (λ s. Hands (ReadsRow Takes rule) IsStoreCause a s r b) stored h.2)
              go (inr shut) = cut r shut.0 (subst (λ s. Hands (ReadsRow Takes rule) IsStoreCause a s r b) shut.1 h.2)
                where
                  cut : (x : Result Bool Cause) → IsErr x → Hands (ReadsRow Takes rule) IsStoreCause a [] x b → Hands Takes IsStoreCause a (table_rows n rows) x b
                  cut (Ok y) failed f = absurd (let x = failed in cc)
                  cut (Err e) failed (inl all, same) = absurd (let y = all in cc)
                  cut (Err e) failed (inr why, same) = hands_cut Takes IsStoreCause a (table_rows n rows) (Err e) b why same

  -- ---- commit

  pub applied : (made : List CellChange) (changes : List RowChange) → made ≡ cell_changes changes → (old new : Held S) (r : Result ⊤ Cause)
      → (0 < length made → OnOk r (Becomes g old new (tables_after made))) → 0 < length changes → OnOk r (Becomes g old new (tables_after (cell_changes changes)))
  applied made [] is old new r h some = absurd (omega (arith, some))
  applied made (c ∷ changes) is old new r h some =
      subst (λ cs. OnOk r (Becomes g old new (tables_after cs))) is (h (subst (λ (cs : List CellChange). 0 < length cs) (sym is) (omega arith)))

  pub nothing_made : (made : List CellChange) (changes : List RowChange) → made ≡ cell_changes changes → {A : Type 0} → (length made ≡ 0 → A) → length changes ≡ 0 → A
  nothing_made made [] is h none = h (ap (λ (cs : List CellChange). length cs) is)
  nothing_made made (c ∷ changes) is h none = absurd (omega (arith, none))

  module _ (schema : Schema) (old new : Held S) (Commits : Tables → Type 0) (e : Endures g old new Commits) where
    pub commits : (changes : List RowChange) → AreChanges schema changes → (0 < length changes → Becomes g old new (tables_after (cell_changes changes))) → (length changes ≡ 0 → new ≡ old)
        → (rows : Rows) → HoldsRows g schema old rows → HoldsRows g schema new (rows_after changes rows)
    commits [] h becomes nothing rows held = subst (λ conn. HoldsRows g schema conn rows) (sym (nothing refl)) held
    commits (c ∷ changes) h becomes nothing rows held = record {
      whole = λ clean. whole_after schema (c ∷ changes) h rows (held.whole (clean_before old new Commits e clean));
      stored = λ clean open_.
          let b = becomes (omega arith) clean in
          subst (λ tables. AreStored schema tables (rows_after (c ∷ changes) rows)) (sym b.2)
          (stored_after schema (c ∷ changes) h rows (held.whole (clean_before old new Commits e clean)) (tables_in g old) (held.stored (clean_before old new Commits e clean) b.0));
    }

    pub commits_ok : (r : Result ⊤ Cause) (changes : List RowChange) → AreChanges schema changes → (0 < length changes → OnOk r (Becomes g old new (tables_after (cell_changes changes)))) → (length changes ≡ 0 → new ≡ old)
        → (rows : Rows) → HoldsRows g schema old rows → OnOk r (HoldsRows g schema new (rows_after changes rows))
    commits_ok (Ok _) changes h becomes nothing rows held = commits changes h becomes nothing rows held
    commits_ok (Err _) changes h becomes nothing rows held = tt

  pub keeps_err : (r : Result ⊤ Cause) (schema : Schema) (old new : Held S) (Commits : Tables → Type 0) → OnErr r (Keeps g old new) → Endures g old new Commits
      → OnErr r ((rows : Rows) → HoldsRows g schema old rows → HoldsRows g schema new rows)
  keeps_err (Ok _) schema old new Commits kept e = tt
  keeps_err (Err _) schema old new Commits kept e = keeps_rows schema old new Commits kept e

  -- a crash leaves what it left before, or the rows after the changes
  pub crash_rows : (schema : Schema) (changes : List RowChange) → AreChanges schema changes → (old new : Held S)
      → Endures g old new (λ tables. IsOpen g old × (tables ≡ tables_after (cell_changes changes) (tables_in g old)))
      → (rows : Rows) → HoldsRows g schema old rows → Endures g old new (λ tables. AreStored schema tables (rows_after changes rows))
  crash_rows schema changes h old new e rows held =
      let Made : Tables → Type 0 = λ tables. IsOpen g old × (tables ≡ tables_after (cell_changes changes) (tables_in g old)) in
      endures_weaker g old new Made (λ tables. AreStored schema tables (rows_after changes rows))
      (λ clean tables made.
      let before = clean_before old new Made e clean in
      subst (λ ts. AreStored schema ts (rows_after changes rows)) (sym made.1) (stored_after schema changes h rows (held.whole before) (tables_in g old) (held.stored before made.0)))
      e

  pub crash_left : (schema : Schema) (after : Rows) (old new : Held S) → Endures g old new (λ tables. AreStored schema tables after) → EnduresRows g schema old new (λ left. left ≡ after)
  crash_left schema after old new e =
      endures_weaker g old new (λ tables. AreStored schema tables after) (λ tables. (rows : Rows) × AreStored schema tables rows × (rows ≡ after)) (λ clean tables stored. (after, stored, refl)) e

  pub crash_none : (schema : Schema) (old new : Held S) → Endures g old new (λ _. ⊥) → EnduresRows g schema old new (λ _. ⊥)
  crash_none schema old new e = endures_weaker g old new (λ _. ⊥) (λ tables. (rows : Rows) × AreStored schema tables rows × ⊥) (λ clean tables none. absurd none) e
