-- A store that was opened over a connection, and then read and migrated: what both leave of the connection.
use Rattle.std.specs.Prelude.{◌≡◌, ◌⊎◌, ◌+◌, ℕ, List, length}
use Rattle.std.proofs.Common.{sym, ap, subst, ◌∙◌, arith, inl, inr}
use Rattle.std.proofs.Math.Nat.{zero-add}
use Rattle.sqlite_trees.specs.declared.store.Store.{Ghosts}
use Rattle.jpa_value.specs.declared.refusal.Cause.{Cause}
use Rattle.jpa_behaviour.specs.Behaviour.{World}
use Rattle.jpa_description.specs.declared.history.history.History.{History}
use Rattle.sqlite.specs.Held.{Held, state}
use Rattle.sqlite.specs.Schema.{Schema}
use Rattle.sqlite.proofs.StateLemmas.{survives_then}
use Rattle.jpa_cells.specs.meaning.Content.{Leaves}
use Rattle.jpa_cells.specs.meaning.Schema.{cell_schema, no_schema}
use Rattle.jpa_cells.specs.meaning.Store.{Stored, up_to_greatest, new_store, IsClean, IsOpen, Keeps, Becomes, Opens, Endures, HoldsTable, HasFault, tables_in}
use Rattle.jpa_cells.specs.meaning.Tables.{Tables}
use Rattle.jpa_cells.specs.rowspace.Space.{Space, IsStoreCause}
use Rattle.jpa_cells.proofs.rowspace.Holding.{clean_before}
use Rattle.jpa_opening.specs.migration.Migration.{opened_tables}
use Rattle.jpa_opening.specs.reader.Damage.{AreDamagedAt}
use Rattle.jpa_opening.specs.reader.Opened.{IsMigrated, AllowsDue, CountsDue}
use Rattle.jpa_cells.specs.cells.Calls.{EnduresMaking}
use Rattle.jpa_program.specs.Opening.{no_rows, having_opened, IsFoundIn, OpensWriting, KeepsOrMakes, Opened, EnduresOpening, OpensCounting, IsOpenCause}

module _ {S : Type 0} (g : Ghosts S) where
  -- ---- what an opening made

  pub opened_keeps : (old : Held S) (store : Stored S) → Opens g old store → KeepsOrMakes g old store.conn
  opened_keeps old store (inl h) = inl (λ clean live. (subst (IsOpen g) (ap (λ (s : Stored S). s.conn) h.0) live, ap (λ (s : Stored S). tables_in g s.conn) h.0))
  opened_keeps old store (inr h) = inr (h.1, λ clean live. (h.2 clean).2)

  pub kept_then : (old mid new : Held S) (Commits : Tables → Type 0) → KeepsOrMakes g old mid → Keeps g mid new → Endures g mid new Commits → KeepsOrMakes g old new
  kept_then old mid new Commits (inl first) second crash =
      inl (λ clean live.
      let later = second clean live in
      let earlier = first (clean_before g mid new Commits crash clean) later.0 in
      (earlier.0, later.1 ∙ earlier.1))
  kept_then old mid new Commits (inr made) second crash =
      inr (made.0, λ clean live. let later = second clean live in later.1 ∙ made.1 (clean_before g mid new Commits crash clean) later.0)

  -- what is found in it
  found_in : (old : Held S) (store : Stored S) → Opens g old store → IsClean g store.conn → IsOpen g store.conn → IsFoundIn g old (tables_in g store.conn)
  found_in old store (inl h) clean live = inl (subst (IsOpen g) (ap (λ (s : Stored S). s.conn) h.0) live, sym (ap (λ (s : Stored S). tables_in g s.conn) h.0))
  found_in old store (inr h) clean live = inr (h.1, (h.2 clean).2)

  module _ (world : World) (h : History) where
    -- ---- and what a migration after it leaves

    abbrev Migrates : Held S → Tables → Type 0
    Migrates conn tables = IsOpen g conn × IsMigrated world h (tables_in g conn) tables

    module _ (old : Held S) (store : Stored S) (new : Held S) (opens : Opens g old store) (survives : Endures g store.conn new (Migrates store.conn)) where
      clean_store : IsClean g new → IsClean g store.conn
      clean_store = clean_before g store.conn new (Migrates store.conn) survives

      pub opened : Becomes g store.conn new (opened_tables world h) → Opened g world h old new
      opened became = by_cases opens
        where
          by_cases : Opens g old store → Opened g world h old new
          by_cases (inl o) =
              inl (λ clean live.
              let b = became clean in
              (subst (IsOpen g) (ap (λ (s : Stored S). s.conn) o.0) b.0, b.2 ∙ ap (λ (s : Stored S). opened_tables world h (tables_in g s.conn)) o.0))
          by_cases (inr o) = inr (o.1, λ clean live. (became clean).2 ∙ ap (opened_tables world h) (o.2 (clean_store clean)).2)

      pub endures_then : EnduresMaking g old store.conn → EnduresOpening g world h old new
      endures_then made =
          let empty : Tables → Type 0 = λ tables. ((state g old).now.schema ≡ no_schema) × (tables ≡ no_rows) in
          let Left : Tables → Type 0 = λ tables. empty tables ⊎ ((found : Tables) × IsFoundIn g old found × IsMigrated world h found tables) in
          survives_then (state g old) (state g store.conn) (state g new) (Leaves empty) (Leaves (Migrates store.conn)) (Leaves Left) (λ _ db l. (l.0, l.1, inl l.2, l.3))
          (λ clean db l. (l.0, l.1, inr (tables_in g store.conn, found_in old store opens (clean_store clean) (l.2).0, (l.2).1), l.3)) made survives

      -- a table that was there is migrated as it stands
      pub fault_found : HoldsTable g old → AllowsDue g world h old → (AllowsDue g world h store.conn → HasFault g store.conn new) → HasFault g old new
      fault_found held allows fault = by_cases opens
        where
          by_cases : Opens g old store → HasFault g old new
          by_cases (inl o) =
              let same : store.conn ≡ old = ap (λ (s : Stored S). s.conn) o.0 in
              subst (λ (c : Held S). HasFault g c new) same (fault (subst (λ (c : Held S). AllowsDue g world h c) (sym same) allows))
          by_cases (inr o) = absurd (let none : length cell_schema.tables ≡ 0 = ap (λ (s : Schema). length s.tables) (sym held ∙ o.1) in omega arith)

    -- ---- what is counted

    -- a store that counted nothing yet
    counted_anew :
        (conn : Held S) (store new : Stored S) (creates tables written : ℕ) → store ≡ new_store conn creates
        → new ≡ record store { conn = new.conn; table_selects = new.table_selects; writes = new.writes; faults = new.faults }
        → new.table_selects ≡ up_to_greatest (store.table_selects + tables) → new.writes ≡ up_to_greatest (store.writes + written) → new.faults ≡ store.faults → new ≡ having_opened new.conn creates tables written
    counted_anew conn store new creates tables written fresh others selects writes faults =
        let selected : new.table_selects ≡ up_to_greatest tables = selects ∙ ap (λ (s : Stored S). up_to_greatest (s.table_selects + tables)) fresh ∙ ap up_to_greatest (zero-add tables) in
        let wrote : new.writes ≡ up_to_greatest written = writes ∙ ap (λ (s : Stored S). up_to_greatest (s.writes + written)) fresh ∙ ap up_to_greatest (zero-add written) in
        let none : new.faults ≡ 0 = faults ∙ ap (λ (s : Stored S). s.faults) fresh in
        others ∙ ap (λ (s : Stored S). record s { conn = new.conn; table_selects = new.table_selects; writes = new.writes; faults = new.faults }) fresh
        ∙ ap (λ n. record (new_store new.conn creates) { table_selects = n; writes = new.writes; faults = new.faults }) selected
        ∙ ap (λ n. record (new_store new.conn creates) { table_selects = up_to_greatest tables; writes = n; faults = new.faults }) wrote
        ∙ ap (λ n. record (new_store new.conn creates) { table_selects = up_to_greatest tables; writes = up_to_greatest written; faults = n }) none

    pub opens_counting :
        (old : Held S) (space new : Space S) (tables : ℕ) → Opens g old space.store → (IsClean g new.store.conn → IsClean g space.store.conn × IsOpen g space.store.conn) → CountsDue g world h space new
        → new.store ≡ record space.store { conn = new.store.conn; table_selects = new.store.table_selects; writes = new.store.writes; faults = new.store.faults }
        → new.store.table_selects ≡ up_to_greatest (space.store.table_selects + tables) → new.store.faults ≡ space.store.faults → OpensCounting g world h old new.store tables
    opens_counting old space new tables opens live counts others selects faults = record {
      writes = counts.written;
      opens = by_cases opens;
      first = λ one. (counts.first one).0;
      due = λ clean. let l = live clean in (tables_in g space.store.conn, found_in old space.store opens l.0 l.1, counts.due clean);
    }
      where
        by_cases : Opens g old space.store → OpensWriting g old new.store tables counts.written
        by_cases (inl o) = inl (counted_anew old space.store new.store 0 tables counts.written o.0 others selects counts.counted faults, o.1)
        by_cases (inr o) = inr (counted_anew space.store.conn space.store new.store 1 tables counts.written o.0 others selects counts.counted faults, o.1)

    -- ---- what is told of damaged cells

    -- the connection is open where damage is told of it
    pub damage_open :
        (conn : Held S) (cause : Cause) → (IsClean g conn → (t : ℕ) (bytes : List ℕ) → cause ≡ Cause.Damaged t bytes → IsOpen g conn)
        → IsStoreCause cause ⊎ ((t : ℕ) × (bytes : List ℕ) × (cause ≡ Cause.Damaged t bytes) × (IsClean g conn → AreDamagedAt world (opened_tables world h (tables_in g conn)) t bytes)) → IsOpenCause g world h conn cause
    damage_open conn cause live (inl told) = inl told
    damage_open conn cause live (inr told) = inr (told.0, told.1, told.2, λ clean. (live clean told.0 told.1 told.2, told.3 clean))
