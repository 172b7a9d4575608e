-- The changes of a migration, written after a reading: what both leave of the store.
use Rattle.std.specs.Prelude.{◌≡◌, ◌+◌, ◌<◌, ◌^◌, ⊤, pos, Bool, true, false, cond, List, [], ◌∷◌, length, sum_by, Result, Ok, Err}
use Rattle.std.proofs.Common.{refl, sym, ap, subst, ◌∙◌, arith}
use Rattle.std.proofs.lemmas.List.Sorted.{length_permutation, sum_by-IsPermutation}
use Rattle.std.specs.List.{flat_map}
use Rattle.std.specs.List.Sorted.{IsPermutation}
use Rattle.sqlite_trees.specs.declared.store.Store.{Ghosts}
use Rattle.sqlite_trees.proofs.ListLemmas.{all-permutation}
use Rattle.sqlite.specs.Effect.{Database}
use Rattle.sqlite.specs.Held.{state}
use Rattle.sqlite.proofs.StateLemmas.{survives_then}
use Rattle.jpa_value.specs.declared.refusal.Cause.{Cause}
use Rattle.jpa_behaviour.specs.Behaviour.{World}
use Rattle.jpa_description.specs.declared.history.history.History.{History}
use Rattle.jpa_rows.specs.rows.Cells.{StandFor, tables_of}
use Rattle.jpa_rows.specs.rows.Tables.{schema_of}
use Rattle.jpa_cells.specs.declared.meaning.CellChange.{CellChange}
use Rattle.jpa_cells.specs.meaning.Content.{Leaves, CanTake, HasRowids}
use Rattle.jpa_cells.specs.meaning.Tables.{Tables, tables_after, statements_of, ColumnsDiffer, AreShort}
use Rattle.jpa_cells.specs.meaning.Store.{Stored, up_to_greatest, IsClean, IsOpen, Becomes, Endures, Allows, HasFault, tables_in}
use Rattle.jpa_cells.specs.rowspace.Enduring.{endures_weaker}
use Rattle.jpa_cells.specs.rowspace.Space.{Space, HoldsRows}
use Rattle.jpa_cells.specs.rowspace.Stored.{AreStored}
use Rattle.jpa_cells.proofs.rowspace.Holding.{clean_before}
use Rattle.jpa_object_rows.specs.meaning.Sets.{rows_of}
use Rattle.jpa_opening.specs.migration.Migration.{is_due, changes_made, opened_tables, changes_due}
use Rattle.jpa_opening.specs.reader.Damage.{cells_in}
use Rattle.jpa_opening.specs.reader.Opened.{MakesOpened, HaveCommitted, IsMigrated, AllowsDue, CountsDue}
use Rattle.jpa_opening.specs.reader.Reads.{KeepsTables}
use Rattle.jpa_opening.specs.declared.reader.judge.Committed.{Committed}
use Rattle.jpa_opening.proofs.reader.Keeping.{fault_then}

-- a database takes changes in any order
taken_so : (db : Database) (xs ys : List CellChange) → IsPermutation xs ys → CanTake db xs → CanTake db ys
taken_so db xs ys order h = record {
  differ = all-permutation (λ (c : CellChange). ColumnsDiffer c.cells) xs ys order h.differ;
  short = all-permutation (λ (c : CellChange). AreShort c.row c.cells) xs ys order h.short;
  rowids = subst (λ n. HasRowids n (db.trees 0)) (sym (sum_by-IsPermutation (λ (c : CellChange). length c.cells) xs ys order)) h.rowids;
}

-- where something is written, the migration was due
some_due : (world : World) (h : History) (tables : Tables) (c : CellChange) (cs : List CellChange) → MakesOpened world h tables (c ∷ cs) → is_due world.model (tables (pos 0)) ≡ true
some_due world h tables c cs makes = by_test (is_due world.model (tables (pos 0))) refl makes.due
  where
    by_test : (b : Bool) → is_due world.model (tables (pos 0)) ≡ b → IsPermutation (cond b (flat_map (λ t. changes_made world h (pos t) (tables (pos t))) (tables_of world.model)) []) (c ∷ cs) → is_due world.model (tables (pos 0)) ≡ true
    by_test true e order = e
    by_test false e order = absurd (let none = length_permutation [] (c ∷ cs) order in omega (arith, none))

module _ {S : Type 0} (g : Ghosts S) (world : World) (h : History) (first mid : Space S) (new : Stored S) (keeps : KeepsTables g first mid) (live : IsClean g mid.store.conn → IsOpen g first.store.conn × IsOpen g mid.store.conn) where
  abbrev found : Tables
  found = tables_in g first.store.conn

  abbrev Made : List CellChange → Tables → Type 0
  Made changes tables = IsOpen g mid.store.conn × (tables ≡ tables_after changes (tables_in g mid.store.conn))

  abbrev Migrates : Tables → Type 0
  Migrates tables = IsOpen g first.store.conn × IsMigrated world h found tables

  -- what a reading says of the changes, and what is left where there are none
  pub record IsWritten (changes : List CellChange) : Type 0 where
    pub makes : IsClean g mid.store.conn → MakesOpened world h found changes
    pub nothing : length changes ≡ 0 → new ≡ mid.store
    pub survives : Endures g mid.store.conn new.conn (Made changes)

  module _ (changes : List CellChange) (w : IsWritten changes) where
    clean_mid : IsClean g new.conn → IsClean g mid.store.conn
    clean_mid = clean_before g mid.store.conn new.conn (Made changes) w.survives

    same : IsClean g mid.store.conn → tables_in g mid.store.conn ≡ found
    same clean = (keeps.kept clean (live clean).1).1

    made : IsClean g mid.store.conn → tables_after changes (tables_in g mid.store.conn) ≡ opened_tables world h found
    made clean = ap (tables_after changes) (same clean) ∙ (w.makes clean).makes

  -- ---- a crash leaves the migration where one was due

  pub migrates : (changes : List CellChange) → IsWritten changes → Endures g first.store.conn new.conn Migrates
  migrates [] w =
      subst (λ (s : Stored S). Endures g first.store.conn s.conn Migrates) (sym (w.nothing refl)) (endures_weaker g first.store.conn mid.store.conn (λ _. ⊥) Migrates (λ clean tables none. absurd none) keeps.crash)
  migrates (c ∷ cs) w =
      survives_then (state g first.store.conn) (state g mid.store.conn) (state g new.conn) (Leaves (λ _. ⊥)) (Leaves (Made (c ∷ cs))) (Leaves Migrates) (λ clean db left. absurd left.2)
      (λ clean db left.
      let before = clean_mid (c ∷ cs) w clean in
      (left.0, left.1, ((live before).0, (some_due world h found c cs (w.makes before), (left.2).1 ∙ made (c ∷ cs) w before)), left.3))
      keeps.crash w.survives

  -- ---- accepted

  pub becomes : (changes : List CellChange) → IsWritten changes → (0 < length changes → Becomes g mid.store.conn new.conn (tables_after changes)) → Becomes g first.store.conn new.conn (opened_tables world h)
  becomes [] w applied clean =
      let before = clean_mid [] w clean in
      let l = live before in
      let is = w.nothing refl in
      (l.0, subst (λ (s : Stored S). IsOpen g s.conn) (sym is) l.1, ap (λ (s : Stored S). tables_in g s.conn) is ∙ made [] w before)
  becomes (c ∷ cs) w applied clean =
      let before = clean_mid (c ∷ cs) w clean in
      let b = applied (omega arith) clean in
      ((live before).0, b.1, b.2 ∙ made (c ∷ cs) w before)

  module _ (changes : List CellChange) (w : IsWritten changes) (became : Becomes g first.store.conn new.conn (opened_tables world h)) (c : Committed) (committed : IsClean g mid.store.conn → HaveCommitted world (opened_tables world h found) c) where
    pub holds_rows : IsClean g new.conn → HoldsRows g (schema_of world.model) new.conn (rows_of world c.set c.numbers)
    holds_rows clean = record {
      whole = λ _. (committed (clean_mid changes w clean)).named;
      stored = λ _ _. subst (λ (t : Tables). AreStored (schema_of world.model) t (rows_of world c.set c.numbers)) (sym (became clean).2) (committed (clean_mid changes w clean)).stored;
    }

    pub stands : IsClean g new.conn → StandFor world (cells_in world (tables_in g new.conn)) c.set c.numbers
    stands clean = subst (λ (t : Tables). StandFor world (cells_in world t) c.set c.numbers) (sym (became clean).2) (committed (clean_mid changes w clean)).stand

  same_writes : mid.store.writes ≡ first.store.writes
  same_writes = ap (λ (s : Space S). s.store.writes) keeps.others

  writes_are : (changes : List CellChange) → mid.store.writes < 2 ^ 64 → (length changes ≡ 0 → new ≡ mid.store) → (0 < length changes → new.writes ≡ up_to_greatest (mid.store.writes + sum_by statements_of changes))
      → new.writes ≡ up_to_greatest (first.store.writes + sum_by statements_of changes)
  writes_are [] small nothing counted = let is = ap (λ (s : Stored S). s.writes) (nothing refl) in let same = same_writes in omega (arith, is, same, small)
  writes_are (c ∷ cs) small nothing counted = counted (omega arith) ∙ ap (λ n. up_to_greatest (n + sum_by statements_of (c ∷ cs))) same_writes

  pub counts_due : (changes : List CellChange) → IsWritten changes → mid.store.writes < 2 ^ 64 → (0 < length changes → new.writes ≡ up_to_greatest (mid.store.writes + sum_by statements_of changes)) → (world.model.revision ≡ 1 → changes ≡ [])
      → (last : Space S) → last.store ≡ new → CountsDue g world h first last
  counts_due changes w small counted none last is =
      subst (λ (s : Stored S). CountsDue g world h first (record last { store = s })) (sym is)
      (record {
        written = sum_by statements_of changes;
        counted = writes_are changes small w.nothing counted;
        first = λ one. (ap (sum_by statements_of) (none one), ap (λ (s : Stored S). s.writes) (w.nothing (ap (λ (cs : List CellChange). length cs) (none one))) ∙ same_writes);
        due = λ clean. sum_by-IsPermutation statements_of (changes_due world h found) changes (w.makes (clean_mid changes w clean)).due;
      })

  -- ---- refused

  pub fault_first : (changes : List CellChange) → IsWritten changes → (cause : Cause) → (length changes ≡ 0 → ◌≡◌ {A = Result ⊤ Cause} (Err cause) (Ok tt)) → (IsClean g new.conn → Allows g mid.store.conn changes → HasFault g mid.store.conn new.conn)
      → IsClean g new.conn → AllowsDue g world h first.store.conn → HasFault g first.store.conn new.conn
  fault_first [] w cause accepted fault clean allows = absurd (refused (accepted refl))
    where
      refused : ◌≡◌ {A = Result ⊤ Cause} (Err cause) (Ok tt) → ⊥
      refused e = cc
  fault_first (c ∷ cs) w cause accepted fault clean allows =
      let before = clean_mid (c ∷ cs) w clean in
      let makes = w.makes before in
      let content = keeps.content before (live before).1 in
      let can = subst (λ (db : Database). CanTake db (changes_due world h found)) (sym content.1) (allows (some_due world h found c cs makes)) in
      fault_then g first.store.conn mid.store.conn new.conn (Made (c ∷ cs)) keeps.crash w.survives clean (fault clean (taken_so (state g mid.store.conn).now (changes_due world h found) (c ∷ cs) makes.due can))
