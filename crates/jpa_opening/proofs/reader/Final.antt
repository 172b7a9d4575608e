-- What is known of a store after its judgment.
use Rattle.std.specs.Prelude.{◌≡◌, ◌⊎◌, ℕ, pos, suc, true, List, [], ◌∷◌, ◌++◌, take, drop, Option, Some, None}
use Rattle.std.proofs.Common.{refl, sym, ap, subst, ◌∙◌, inl, inr, zero, get_or, arith}
use Rattle.sqlite_trees.specs.declared.store.Store.{Ghosts}
use Rattle.jpa_value.specs.declared.refusal.Cause.{Cause}
use Rattle.jpa_rows.specs.keys.Keys.{key_bytes}
use Rattle.jpa_model.specs.Chains.{entity_at}
use Rattle.jpa_behaviour.specs.Behaviour.{World, IsRegular}
use Rattle.jpa_description.specs.declared.history.history.History.{History}
use Rattle.jpa_opening.specs.migration.Migration.{opened_tables}
use Rattle.jpa_rows.specs.declared.rows.schema.Schema.{Schema}
use Rattle.jpa_rows.specs.declared.rows.schema.TableRule.{TableRule}
use Rattle.jpa_rows.specs.rows.Rows.{RowId, Row, Rows, table_of, table_rows}
use Rattle.jpa_rows.specs.rows.Tables.{schema_of}
use Rattle.jpa_object_rows.specs.meaning.Unambiguous.{is_class}
use Rattle.jpa_object_rows.proofs.meaning.Bytes.Mapped.{IsMapped}
use Rattle.jpa_object_rows.specs.meaning.Objects.{is_discriminator}
use Rattle.jpa_cells.specs.meaning.Tables.{Tables, AreRows}
use Rattle.jpa_cells.specs.meaning.Store.{IsClean, IsOpen, tables_in}
use Rattle.jpa_cells.specs.rowspace.Stored.{AreRowsOf, AreStored}
use Rattle.jpa_cells.specs.rowspace.Reading.{IsReadBy}
use Rattle.jpa_cells.specs.rowspace.Space.{Space, IsStoreCause}
use Rattle.jpa_cells.proofs.rowspace.Whole.{reads_all}
use Rattle.jpa_opening.specs.declared.reader.judge.Committed.{Committed}
use Rattle.jpa_opening.specs.reader.Sound.{IsSoundRow, AreSoundRows}
use Rattle.jpa_opening.specs.reader.Judged.{AreHeld, StartsUnsound, IsFirstDamaged}
use Rattle.jpa_opening.specs.reader.Damage.{AreDamagedAt, IsLowestDamage}
use Rattle.jpa_opening.specs.reader.Opened.{HaveCommitted}
use Rattle.jpa_opening.specs.reader.Reads.{AreNumbersOf, AreReadUpTo, IsFirstUnsound, IsTold, KeepsTables}
use Rattle.jpa_opening.proofs.reader.Reading.{whole_all, into_all, into_rises, seen}
use Rattle.jpa_opening.proofs.reader.Lowest.{lowest_unsound, lowest_ended, rows_reached, reached_table, lowest_before}
use Rattle.jpa_opening.proofs.reader.Standing.{stand_held, stand_none, sound_none}
use Rattle.jpa_opening.proofs.reader.Undamaged.{damaged_stand_for_none}

-- ---- the row at a place

module _ (world : World) where
  first_at : (rows : Rows) (place : ℕ) (front : Rows) (e : RowId × Row) → AreSoundRows world front → AreSoundRows world (take place rows) → StartsUnsound world (drop place rows) → e ≡ get_or rows place e
      → (all : Rows) → all ≡ front ++ rows → IsFirstUnsound world all (e.0).table (key_bytes (e.0).key)
  first_at [] zero front e s t d is all split = absurd d
  first_at [] (suc place) front e s t d is all split = absurd d
  first_at (r ∷ rows) zero front e s t d is all split = record {
    front = front;
    id = e.0;
    row = e.1;
    back = rows;
    split = split ∙ ap (λ (x : RowId × Row). front ++ x ∷ rows) (sym is);
    sound = s;
    damaged = λ k. d (subst (λ (x : RowId × Row). IsSoundRow world x.0 x.1) is k);
    own = refl;
    named = refl;
  }
  first_at (r ∷ rows) (suc place) front e s t d is all split =
      first_at rows place (front ++ r ∷ []) e (sound_last front s) t.1 d is all (split ∙ shift front)
    where
      sound_last : (front : Rows) → AreSoundRows world front → AreSoundRows world (front ++ r ∷ [])
      sound_last [] s = (t.0, tt)
      sound_last (f ∷ front) s = (s.0, sound_last front s.1)

      shift : (front : Rows) → front ++ r ∷ rows ≡ (front ++ r ∷ []) ++ rows
      shift [] = refl
      shift (f ∷ front) = ap (λ l. f ∷ l) (shift front)

  pub first_unsound : (rows : Rows) (place : ℕ) (e : RowId × Row) → IsFirstDamaged world rows place → e ≡ get_or rows place e → IsFirstUnsound world rows (e.0).table (key_bytes (e.0).key)
  first_unsound rows place e h is = first_at rows place [] e tt h.before h.damaged is rows refl

  pub told_first : (schema : Schema) (rows : Rows) (place : ℕ) (e : RowId × Row) (end : Option (ℕ × List ℕ)) (cause : Cause) → IsFirstDamaged world rows place → e ≡ get_or rows place e
      → (cause ≡ Cause.OutOfMemory) ⊎ (cause ≡ Cause.Damaged ((get_or rows place e).0).table (key_bytes ((get_or rows place e).0).key))
      → (cause ≡ Cause.OutOfMemory) ⊎ ((t : ℕ) × (bytes : List ℕ) × (cause ≡ Cause.Damaged t bytes) × (AreRowsOf schema rows → IsTold world rows end t bytes))
  told_first schema rows place e end cause h is (inl none) = inl none
  told_first schema rows place e end cause h is (inr told) = inr ((e.0).table, key_bytes (e.0).key, told ∙ ap (λ (x : RowId × Row). Cause.Damaged (x.0).table (key_bytes (x.0).key)) (sym is), λ _. inl (first_unsound rows place e h is))

-- ---- the store, as the unit opens it

module _ {S : Type 0} (g : Ghosts S) (world : World) (mapped : IsMapped world.model) (regular : IsRegular world) (discriminators : (class : ℕ) → is_class world.model class ≡ true → is_discriminator (entity_at world.model class) ≡ true)
    (h : History) (first new : Space S) (schema_is : first.schema ≡ schema_of world.model) (numbers : List ℕ) (given : AreNumbersOf first.schema numbers) (keeps : KeepsTables g first new) (rows : Rows) (end : Option (ℕ × List ℕ))
    (found : IsClean g new.store.conn → AreReadUpTo first.schema (opened_tables world h (tables_in g first.store.conn)) numbers rows end) (live : IsClean g new.store.conn → IsOpen g first.store.conn × IsOpen g new.store.conn) where
  abbrev schema : Schema
  schema = schema_of world.model

  -- the tables that are judged
  abbrev opened : Tables
  opened = opened_tables world h (tables_in g first.store.conn)

  are : AreNumbersOf schema numbers
  are = subst (λ (s : Schema). AreNumbersOf s numbers) schema_is given

  same_opened : IsClean g new.store.conn → opened ≡ opened_tables world h (tables_in g new.store.conn)
  same_opened clean = ap (opened_tables world h) (sym (keeps.kept clean (live clean).1).1)

  read : IsClean g new.store.conn → AreReadUpTo schema opened numbers rows end
  read clean = subst (λ (s : Schema). AreReadUpTo s opened numbers rows end) schema_is (found clean)

  -- the rows are the schema's
  rows_named : (end : Option (ℕ × List ℕ)) → AreReadUpTo schema opened numbers rows end → AreRowsOf schema rows
  rows_named None r = (reads_all schema opened rows r.rising (whole_all schema opened numbers rows are r)).0
  rows_named (Some at) r =
      (reads_all schema (seen schema opened numbers are.rising rows at.0 at.1 r) rows (into_rises schema opened numbers are.rising rows at.0 at.1 r) (into_all schema opened numbers are.rising rows at.0 at.1 r)).0

  -- the place of a damaged row, of a table whose rows of cells rise
  damaged_row : (t : ℕ) (bytes : List ℕ) → ((rule : TableRule) → table_of schema t ≡ Some rule → AreRows (opened (pos t))) → IsLowestDamage world opened t bytes → AreDamagedAt world opened t bytes
  damaged_row t bytes rows_are d =
      record { none = damaged_stand_for_none world mapped regular discriminators opened t bytes (rows_are d.rule d.own) d; place = inl d }

  damaged_at : (end : Option (ℕ × List ℕ)) → AreReadUpTo schema opened numbers rows end → (t : ℕ) (bytes : List ℕ) → IsTold world rows end t bytes → AreDamagedAt world opened t bytes
  damaged_at None r t bytes (inl first) =
      let reads = whole_all schema opened numbers rows are r in
      damaged_row t bytes (λ rule own. (subst (λ o. IsReadBy o (opened (pos t)) (table_rows t rows)) own (reads t)).0) (lowest_unsound world opened rows r.rising reads t bytes first)
  damaged_at None r t bytes (inr none) =
      let reads = whole_all schema opened numbers rows are r in
      record {
        none = stand_none world mapped regular discriminators opened rows r.rising reads none.2;
        place = inr (none.0, none.1, sound_none world mapped regular discriminators opened rows r.rising reads none.2);
      }
  damaged_at (Some at) r t bytes (inl first) =
      damaged_row t bytes (λ rule own. rows_reached world opened numbers are rows at.0 at.1 r t rule (reached_table world opened numbers are rows at.0 at.1 r t bytes first) own)
      (lowest_before world opened numbers are rows at.0 at.1 r t bytes first)
  damaged_at (Some at) r t bytes (inr ended) =
      damaged_row t bytes (λ rule own. rows_reached world opened numbers are rows at.0 at.1 r t rule (let same = ended.0 in omega (arith, same)) own)
      (subst (λ n. IsLowestDamage world opened n bytes) (sym ended.0) (subst (IsLowestDamage world opened at.0) (sym ended.1) (lowest_ended world opened numbers are rows at.0 at.1 r ended.2)))

  -- ---- what is answered

  whole : end ≡ None → IsClean g new.store.conn → AreRowsOf schema rows × AreStored schema opened rows
  whole none clean =
      let r = subst (AreReadUpTo schema opened numbers rows) none (read clean) in
      reads_all schema opened rows r.rising (whole_all schema opened numbers rows are r)

  pub committed : (c : Committed) → end ≡ None → AreHeld world rows c → IsClean g new.store.conn → HaveCommitted world opened c
  committed c none held clean =
      let w = whole none clean in
      record {
        named = subst (AreRowsOf schema) held.same w.0;
        stored = subst (AreStored schema opened) held.same w.1;
        stand = stand_held world mapped regular discriminators opened rows w.0 w.1 held.sound c.set c.numbers held.held held.same;
      }

  pub refuses : (cause : Cause) → (cause ≡ Cause.OutOfMemory) ⊎ ((t : ℕ) × (bytes : List ℕ) × (cause ≡ Cause.Damaged t bytes) × (AreRowsOf schema rows → IsTold world rows end t bytes))
      → IsStoreCause cause ⊎ ((t : ℕ) × (bytes : List ℕ) × (cause ≡ Cause.Damaged t bytes) × (IsClean g new.store.conn → AreDamagedAt world (opened_tables world h (tables_in g new.store.conn)) t bytes))
  refuses cause (inl none) = inl (inl none)
  refuses cause (inr told) =
      inr (
        told.0,
        told.1,
        told.2,
        λ clean.
            subst (λ (t : Tables). AreDamagedAt world t told.0 told.1) (same_opened clean) (damaged_at end (read clean) told.0 told.1 (told.3 (rows_named end (read clean)))),
      )
