-- The SELECTs, from what a connection says of them.
use Rattle.std.proofs.Common.{◌≡◌, ℕ, ℤ, List, [], ◌∷◌, Err, Ok, Result, IfErr, IfOk, sym, subst, ap, ◌∙◌, inl, inr, IsTrue, None, Some, Option}
use Rattle.std.proofs.lemmas.List.Elements.{All-from_recursion}
use Rattle.sqlite.specs.declared.types.Value.TheVariants.{Int, Blob}
use Rattle.sqlite.specs.Order.{Row}
use Rattle.sqlite.specs.declared.error.Error.{Error}
use Rattle.sqlite.specs.Listing.{understood}
use Rattle.sqlite.specs.Clock.{timed}
use Rattle.sqlite.specs.State.{State, HasCleanDisk, IsUnchanged, IsRolledBack, Shown, ShowsRows, FailsToQuery, FailsToShow, IsNotRun, Survives, CommitsShowing}
use Rattle.sqlite.proofs.Callers.{IsPlain, reads_as}
use Rattle.sqlite.proofs.StateLemmas.{survives_weaker}
use Rattle.sqlite_schema.specs.declared.command.Returning.{Returning}
use Rattle.sqlite_schema.specs.declared.schema.Constraint.TheVariants.{Unique}
use Rattle.sqlite.specs.Tree.{Trees}
use Rattle.jpa_cells.specs.meaning.Schema.{cell_schema, row_text, table_text}
use Rattle.jpa_cells.specs.meaning.Content.{IsCellStore, IsShownCell, IsShownEntry, ShowsCells, ShowsTable, grouped, Leaves}
use Rattle.jpa_cells.proofs.meaning.Texts.{row_is, row_plain, table_is, table_plain}
use Rattle.jpa_cells.proofs.meaning.Quiet.{row_never_commits, table_never_commits}
use Rattle.jpa_cells.proofs.meaning.TableMeaning.{table_shown}
use Rattle.jpa_cells.proofs.meaning.RowMeaning.{shown, columns_differ}
use Rattle.jpa_cells.proofs.meaning.Laws.{obeys, cells_in}
use Rattle.jpa_cells.proofs.meaning.Rows.{cells_found, are_rows}

-- ---- what a read leaves

unchanged : (old new : State) → IsUnchanged old new → IsTrue new.is_open → IsTrue old.is_open × (new.now ≡ old.now)
unchanged old new h live = (h.0.was_open, h.0.now_is)

rolled_back : (old new : State) → (IsTrue old.is_open → old.now ≡ old.committed) → IsRolledBack old new → IsTrue new.is_open → IsTrue old.is_open × (new.now ≡ old.now)
rolled_back old new settled h live = let was = h.was_open live in (was, (h.undone live).0 ∙ sym (settled was))

module _ (sql : List ℕ) (plain : IsPlain (understood cell_schema sql)) (params : Row) (old new : State) (store : IsCellStore old) (clean : HasCleanDisk old) where
  is_plain : IsTrue old.is_open → IsPlain (understood old.now.schema sql)
  is_plain live = subst (λ s. IsPlain (understood s sql)) (sym (store clean live).schema) plain

  shown_open : (rows : List Row) → Shown sql params old new rows → IsTrue old.is_open
  unfolding Shown
  shown_open rows h = go h.0.returning h.2
    where
      go : (o : Option Returning) → ShowsRows old new sql h.0 (timed params h.0.formats h.1.now) rows o → IsTrue old.is_open
      go None it = it.3.0.was_open
      go (Some what) it = it.1.shown.was_open

  shown_unchanged : (rows : List Row) → Shown sql params old new rows → IsUnchanged old new
  unfolding Shown
  shown_unchanged rows h =
      let none = (subst IsPlain h.1.is (is_plain (shown_open rows h))).0 in
      (subst (ShowsRows old new sql h.0 (timed params h.0.formats h.1.now) rows) none h.2).3

  failed_open : (e : Error) → FailsToQuery sql params old new e → IsTrue new.is_open → IsTrue old.is_open
  unfolding FailsToQuery IsNotRun
  failed_open e (inl (inl h)) live = h.1.0.was_open
  failed_open e (inl (inr h)) live = h.3.was_open live
  failed_open e (inr h) live = go h.0.returning h.2
    where
      go : (o : Option Returning) → FailsToShow old new sql h.0 (timed params h.0.formats h.1.now) e o → IsTrue old.is_open
      go None it = it.3.0.was_open
      go (Some what) (inl it) = it.1.0.was_open
      go (Some what) (inr it) = it.3.was_open live

  pub failed_keeps : (IsTrue old.is_open → old.now ≡ old.committed) → (e : Error) → FailsToQuery sql params old new e → IsTrue new.is_open → IsTrue old.is_open × (new.now ≡ old.now)
  unfolding FailsToQuery IsNotRun
  failed_keeps settled e (inl (inl h)) live = unchanged old new h.1 live
  failed_keeps settled e (inl (inr h)) live = rolled_back old new settled h.3 live
  failed_keeps settled e (inr h) live =
      let none = (subst IsPlain h.1.is (is_plain (failed_open e (inr h) live))).0 in
      let it = subst (FailsToShow old new sql h.0 (timed params h.0.formats h.1.now) e) none h.2 in
      unchanged old new it.3 live

  -- an answer leaves the connection as it was
  pub shown_keeps : (rows : List Row) → Shown sql params old new rows → IsTrue old.is_open × IsTrue new.is_open × (new.now ≡ old.now)
  shown_keeps rows h = let it = shown_unchanged rows h in (it.0.was_open, it.0.is_open, it.0.now_is)

  pub read_keeps : (IsTrue old.is_open → old.now ≡ old.committed) → {A : Type 0} (items : A → List Row) (r : Result A Error) → IfOk r (λ a. Shown sql params old new (items a)) → IfErr r (FailsToQuery sql params old new)
      → IsTrue new.is_open → IsTrue old.is_open × (new.now ≡ old.now)
  read_keeps settled items (Ok a) ok err live = unchanged old new (shown_unchanged (items a) ok) live
  read_keeps settled items (Err e) ok err live = failed_keeps settled e err live

pub if_ok : {T E : Type 0} {P Q : T → Type 0} → (r : Result T E) → ((x : T) → P x → Q x) → IfOk r P → IfOk r Q
if_ok (Ok x) f h = f x h
if_ok (Err e) f h = h

pub if_err : {T E : Type 0} {P Q : E → Type 0} → (r : Result T E) → ((e : E) → P e → Q e) → IfErr r P → IfErr r Q
if_err (Ok x) f h = h
if_err (Err e) f h = f e h

-- ---- what each SELECT shows

module _ (old new : State) (store : IsCellStore old) (clean : HasCleanDisk old) (table : ℤ) where
  pub row_shown : (key : List ℕ) (rows : List Row) → Shown row_text (Int table ∷ Blob key ∷ []) old new rows → ShowsCells old new table key rows
  row_shown key rows h =
      let params = Int table ∷ Blob key ∷ [] in
      let kept = shown_keeps row_text row_plain params old new store clean rows h in
      let holds = store clean kept.0 in
      let answer = (reads_as row_text params old new cell_schema holds.schema _ row_is.0 row_plain row_is.1 rows h).answer in
      let cells = cells_in old.now holds in
      let it = shown table key old.now.trees cells (columns_differ old.now.trees cells (obeys old.now holds Unique) table key) rows answer in
      (kept, it.0 ∙ cells_found old.now holds table key, All-from_recursion IsShownCell rows it.1)

  pub all_shown : (rows : List Row) → Shown table_text (Int table ∷ []) old new rows → ShowsTable old new table rows
  all_shown rows h =
      let params = Int table ∷ [] in
      let kept = shown_keeps table_text table_plain params old new store clean rows h in
      let holds = store clean kept.0 in
      let answer = (reads_as table_text params old new cell_schema holds.schema _ table_is.0 table_plain table_is.1 rows h).answer in
      let it = table_shown table old.now.trees (cells_in old.now holds) (obeys old.now holds Unique) rows answer in
      (kept, ap grouped it.0, are_rows old.now holds table, All-from_recursion IsShownEntry rows it.1)

none_left : (Commits : Trees → Type 0) (old new : State) → ((db : Trees) → Commits db → ⊥) → Survives old new Commits → Survives old new (Leaves (λ _. ⊥))
none_left Commits old new never s = survives_weaker old new Commits (Leaves (λ _. ⊥)) (λ _ db h. absurd (never db h)) s

pub row_survives : (old new : State) (params : Row) → Survives old new (CommitsShowing row_text params old) → Survives old new (Leaves (λ _. ⊥))
row_survives old new params s = none_left (CommitsShowing row_text params old) old new (row_never_commits params old) s

pub table_survives : (old new : State) (params : Row) → Survives old new (CommitsShowing table_text params old) → Survives old new (Leaves (λ _. ⊥))
table_survives old new params s = none_left (CommitsShowing table_text params old) old new (table_never_commits params old) s
