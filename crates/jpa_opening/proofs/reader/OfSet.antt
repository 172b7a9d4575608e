-- Rows of a set that a store can hold: each is sound, they are rows of the schema, and of no other set.
use Rattle.std.specs.Prelude.{◌≡◌, ◌⊎◌, ℕ, true, List, [], ◌∷◌, Option, Some, None, Result, Ok, Err, IfOk, IfErr}
use Rattle.std.proofs.Common.{refl, sym, ap, subst, ◌∙◌, inl, inr}
use Rattle.std.specs.List.{AllByRecursion}
use Rattle.jpa_value.specs.declared.refusal.Cause.{Cause}
use Rattle.jpa_model.specs.declared.unit.PersistenceUnit.{PersistenceUnit}
use Rattle.jpa_model.specs.declared.unit.Root.{Root}
use Rattle.jpa_model.specs.Chains.{entity_at}
use Rattle.jpa_behaviour.specs.Behaviour.{World, IsRegular}
use Rattle.jpa_stored.specs.objects.Sets.{StoredSet}
use Rattle.jpa_rows.specs.declared.rows.schema.Schema.{Schema}
use Rattle.jpa_rows.specs.declared.rows.schema.TableRule.{TableRule}
use Rattle.jpa_rows.specs.rows.Cells.{CanBeHeld}
use Rattle.jpa_rows.specs.rows.Rows.{RowId, Row, Rows, table_of}
use Rattle.jpa_rows.specs.rows.Tables.{schema_of}
use Rattle.jpa_rows.proofs.laws.Elements.{Has, append_has}
use Rattle.jpa_rows.proofs.laws.Lists.{all_each}
use Rattle.jpa_object_rows.specs.meaning.Identities.{root_at}
use Rattle.jpa_object_rows.specs.meaning.Unambiguous.{IsUnambiguous, is_class}
use Rattle.jpa_object_rows.proofs.meaning.Bytes.Mapped.{IsMapped}
use Rattle.jpa_object_rows.proofs.meaning.Bytes.MappedClasses.{unambiguous_mapped}
use Rattle.jpa_object_rows.proofs.meaning.Bytes.Rounds.{held_storable}
use Rattle.jpa_object_rows.specs.meaning.Raw as objects
use Rattle.jpa_object_rows.specs.meaning.Raw.{is_key_by, IsRowBy}
use Rattle.jpa_object_rows.specs.meaning.Objects.{is_discriminator}
use Rattle.jpa_object_rows.specs.meaning.Sets.{set_in, numbers_in, AreUnitRows, rows_of}
use Rattle.jpa_object_rows.proofs.meaning.Exact.{rows_of_unit, set_read_in, numbers_read_in}
use Rattle.jpa_object_rows.specs.mapper.Mapped.{IsMainRow}
use Rattle.jpa_cells.specs.rowspace.Stored.{IsEntryBy, AreRowsOf}
use Rattle.jpa_opening.specs.declared.reader.judge.Committed.{Committed}
use Rattle.jpa_opening.specs.reader.Sound.{IsSoundRow, AreSoundRows}
use Rattle.jpa_opening.specs.reader.Judged.{AreHeld}
use Rattle.jpa_opening.specs.reader.Reads.{IsTold}
use Rattle.jpa_opening.specs.reader.OfSet.{AreOf, TellsNone}
use Rattle.jpa_opening.proofs.reader.TableKinds.{no_join, zero_no_root}
use Rattle.jpa_opening.proofs.reader.Undamaged.{rows_sound}

-- ---- rows of a schema, in the words of a store of cells

entry_by : (o : Option TableRule) (e : RowId × Row) → is_key_by o (e.0).key ≡ true → IsRowBy o e.1 → (e.1 ≡ [] → ⊥) → IsEntryBy o e
entry_by None e named whole filled = absurd whole
entry_by (Some rule) e named whole filled = record { named = named; whole = whole; filled = filled }

each_entry : (schema : Schema) (rows : Rows) → objects.AreNamed schema rows → objects.AreWhole schema rows → objects.AreFilled rows → AllByRecursion (λ e. IsEntryBy (table_of schema (e.0).table) e) rows
each_entry schema [] named whole filled = tt
each_entry schema (e ∷ rows) named whole filled =
    (entry_by (table_of schema (e.0).table) e named.0 whole.0 filled.0, each_entry schema rows named.1 whole.1 filled.1)

pub unit_entries : (m : PersistenceUnit) (rows : Rows) → AreUnitRows m rows → AreRowsOf (schema_of m) rows
unit_entries m rows h = record { rising = (h.named).rising; each = each_entry (schema_of m) rows (h.named).named h.whole h.filled }

-- ---- each row is sound

module _ (world : World) (mapped : IsMapped world.model) (regular : IsRegular world) (discriminators : (class : ℕ) → is_class world.model class ≡ true → is_discriminator (entity_at world.model class) ≡ true) where
  clear : IsUnambiguous world.model
  clear = unambiguous_mapped world.model mapped

  pub held_sound : (set : StoredSet) (numbers : List ℕ) → CanBeHeld world set numbers → AreSoundRows world (rows_of world set numbers)
  held_sound set numbers held = rows_sound world mapped set numbers (held_storable world set numbers held) held.numbered

  pub of_sound : (rows : Rows) (set : StoredSet) (numbers : List ℕ) → AreOf world rows set numbers → AreSoundRows world rows
  of_sound rows set numbers h = subst (AreSoundRows world) (sym h.same) (held_sound set numbers h.held)

  -- a sound row of a root's table is an object's main row
  pub main_at : (id : RowId) (row : Row) (root : Root) → root_at world.model id.table ≡ Some root → IsSoundRow world id row → IsMainRow world id row
  main_at id row root at (inl revision) = absurd (zero_no_root world.model clear root (ap (root_at world.model) (ap (λ (i : RowId). i.table) (sym revision.under)) ∙ at))
  main_at id row root at (inr (inl number)) = absurd (zero_no_root world.model clear root (ap (root_at world.model) (ap (λ (i : RowId). i.table) (sym number.under)) ∙ at))
  main_at id row root at (inr (inr (inl pair))) = absurd (no_join world.model clear id.table root at pair.join)
  main_at id row root at (inr (inr (inr main))) = main

  -- ---- they are rows of the unit, and of no other set

  pub of_unit : (rows : Rows) (set : StoredSet) (numbers : List ℕ) → AreOf world rows set numbers → AreUnitRows world.model rows
  of_unit rows set numbers h =
      subst (AreUnitRows world.model) (sym h.same) (rows_of_unit world mapped regular discriminators numbers (h.held).numbered set (held_storable world set numbers h.held))

  pub of_set : (rows : Rows) (set : StoredSet) (numbers : List ℕ) → AreOf world rows set numbers → set_in world rows ≡ set
  of_set rows set numbers h =
      ap (set_in world) h.same ∙ set_read_in world mapped regular discriminators numbers (h.held).numbered set (h.held).rising (held_storable world set numbers h.held)

  of_numbers : (rows : Rows) (set : StoredSet) (numbers : List ℕ) → AreOf world rows set numbers → numbers_in world.model rows ≡ numbers
  of_numbers rows set numbers h =
      ap (numbers_in world.model) h.same ∙ numbers_read_in world mapped regular discriminators numbers (h.held).numbered set (held_storable world set numbers h.held)

  pub of_one : (rows : Rows) (c : Committed) → AreHeld world rows c → (set : StoredSet) (numbers : List ℕ) → AreOf world rows set numbers → (c.set ≡ set) × (c.numbers ≡ numbers)
  of_one rows c is set numbers h =
      let own : AreOf world rows c.set c.numbers = record { held = is.held; same = is.same } in
      (sym (of_set rows c.set c.numbers own) ∙ of_set rows set numbers h, sym (of_numbers rows c.set c.numbers own) ∙ of_numbers rows set numbers h)

  not_told : (rows : Rows) (set : StoredSet) (numbers : List ℕ) → AreOf world rows set numbers → (table : ℕ) (bytes : List ℕ) → IsTold world rows None table bytes → ⊥
  not_told rows set numbers h table bytes (inl first) =
      let e : RowId × Row = (first.id, first.row) in
      first.damaged (all_each (λ (d : RowId × Row). IsSoundRow world d.0 d.1) rows (of_sound rows set numbers h) e
      (subst (λ (rs : Rows). Has rs e) (sym first.split) (append_has first.front (e ∷ first.back) e (inr (inl refl)))))
  not_told rows set numbers h table bytes (inr none) = (none.2).none set numbers h.held h.same

  -- what is told of rows, or want of memory, tells that they are of no set
  pub tells_none : (rows : Rows) (cause : Cause) → (cause ≡ Cause.OutOfMemory) ⊎ ((t : ℕ) × (bytes : List ℕ) × (cause ≡ Cause.Damaged t bytes) × (AreRowsOf (schema_of world.model) rows → IsTold world rows None t bytes))
      → (cause ≡ Cause.OutOfMemory) ⊎ TellsNone world rows cause
  tells_none rows cause (inl memory) = inl memory
  tells_none rows cause (inr told) =
      inr (record {
        table = told.0;
        bytes = told.1;
        damaged = told.2;
        told = told.3;
        none = λ set numbers h. not_told rows set numbers h told.0 told.1 (told.3 (unit_entries world.model rows (of_unit rows set numbers h)));
      })

  -- and so does a judgment of rows
  pub same_if : (rows : Rows) (r : Result Committed Cause) → IfOk r (λ c. AreHeld world rows c) → (set : StoredSet) (numbers : List ℕ) → AreOf world rows set numbers
      → IfOk r (λ c. (c.set ≡ set) × (c.numbers ≡ numbers))
  same_if rows (Ok c) held set numbers of = of_one rows c held set numbers of
  same_if rows (Err e) held set numbers of = tt

  pub none_if : (rows : Rows) (r : Result Committed Cause) (schema : Schema) → schema ≡ schema_of world.model
      → IfErr r (λ cause. (cause ≡ Cause.OutOfMemory) ⊎ ((t : ℕ) × (bytes : List ℕ) × (cause ≡ Cause.Damaged t bytes) × (AreRowsOf schema rows → IsTold world rows None t bytes)))
      → IfErr r (λ cause. (cause ≡ Cause.OutOfMemory) ⊎ TellsNone world rows cause)
  none_if rows (Ok c) schema is err = tt
  none_if rows (Err e) schema is err =
      tells_none rows e (subst (λ (s : Schema). (e ≡ Cause.OutOfMemory) ⊎ ((t : ℕ) × (bytes : List ℕ) × (e ≡ Cause.Damaged t bytes) × (AreRowsOf s rows → IsTold world rows None t bytes))) is err)
