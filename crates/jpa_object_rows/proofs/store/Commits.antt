-- Changes under which the rows of a set are seen are such that a store makes.
use Rattle.std.specs.Prelude.{◌≡◌, ◌≢◌, ℕ, true, T, All, List, [], ◌∷◌, map, Option, Some, None}
use Rattle.std.proofs.Common.{refl, sym, ap, ◌∙◌, get_or}
use Rattle.std.specs.FinMap.{find, is_sorted}
use Rattle.jpa_value.specs.Value.{identity_cmp}
use Rattle.jpa_model.specs.Chains.{entity_at}
use Rattle.jpa_behaviour.specs.Behaviour.{World, IsRegular}
use Rattle.jpa_stored.specs.objects.Sets.{StoredSet}
use Rattle.jpa_rows.specs.rows.Cells.{CanBeHeld}
use Rattle.jpa_rows.specs.declared.rows.row.RowChange.{RowChange}
use Rattle.jpa_rows.specs.declared.rows.schema.TableRule.{TableRule}
use Rattle.jpa_rows.specs.rows.Rows.{RowId, Row, Rows, AreRising, table_of, entry_of, IsChangeBy, AreChanges}
use Rattle.jpa_rows.specs.rows.Tables.{schema_of}
use Rattle.jpa_rows.specs.laws.Changes.{over}
use Rattle.jpa_rows.proofs.laws.Elements.{Has, found_has}
use Rattle.jpa_rows.proofs.laws.Lists.{all_each}
use Rattle.jpa_rows.proofs.laws.Facts.{some_none, true_false}
use Rattle.jpa_rows.proofs.laws.Overlay.{found_seen, one_difference}
use Rattle.jpa_object_rows.specs.meaning.Unambiguous.{is_class}
use Rattle.jpa_object_rows.proofs.meaning.Bytes.Mapped.{IsMapped}
use Rattle.jpa_object_rows.proofs.meaning.Bytes.Orders.{identities}
use Rattle.jpa_object_rows.proofs.meaning.Bytes.Rounds.{held_storable}
use Rattle.jpa_object_rows.specs.meaning.Raw.{is_key_by, is_id_of, IsRowBy}
use Rattle.jpa_object_rows.specs.meaning.Objects.{is_discriminator}
use Rattle.jpa_object_rows.specs.meaning.Sets.{AreUnitRows, rows_of}
use Rattle.jpa_object_rows.proofs.meaning.Exact.{rows_of_unit}
use Rattle.jpa_rows.specs.overlay.Overlay.{Changes}
use Rattle.jpa_object_rows.specs.store.Shown.{Show, Recall}
use Rattle.jpa_rows.specs.rows.Commits.{IsDifference}

-- a change by a table

put_by : (o : Option TableRule) (id : RowId) (row : Row) → is_key_by o id.key ≡ true → IsRowBy o row → row ≢ [] → IsChangeBy o (record { id = id; row = Some row })
put_by None id row h g filled = absurd g
put_by (Some table) id row h g filled = record { named = h; whole = g; filled = filled }

drop_by : (o : Option TableRule) (id : RowId) → is_key_by o id.key ≡ true → IsChangeBy o (record { id = id; row = None })
drop_by None id h = absurd (true_false (sym h))
drop_by (Some table) id h = record { named = h; whole = tt; filled = tt }

-- ---- no changes yet

held_rises : (world : World) → IsMapped world.model → IsRegular world → ((class : ℕ) → is_class world.model class ≡ true → is_discriminator (entity_at world.model class) ≡ true)
    → (set : StoredSet) (numbers : List ℕ) → CanBeHeld world set numbers → AreRising (rows_of world set numbers)
held_rises world mapped regular named set numbers held = ((rows_of_unit world mapped regular named numbers held.numbered set (held_storable world set numbers held)).named).rising

pub begins : (world : World) → IsMapped world.model → IsRegular world → ((class : ℕ) → is_class world.model class ≡ true → is_discriminator (entity_at world.model class) ≡ true)
    → (set : StoredSet) (numbers : List ℕ) → CanBeHeld world set numbers → Show world (rows_of world set numbers) [] set numbers
begins world mapped regular named set numbers held = record {
  below = held_rises world mapped regular named set numbers held;
  own = tt;
  rising = held.rising;
  storable = held_storable world set numbers held;
  numbered = held.numbered;
  seen = refl;
}

-- and nothing noted
pub begins_noted : (base : Rows) → Recall base [] []
begins_noted base = record { own = λ id is. absurd (true_false (sym is)); changed = λ id is. absurd (true_false (sym is)) }

-- where the rows stay as they are, nothing is to be made, and nothing else is
pub no_difference : (base : Rows) → IsDifference base base []
no_difference base = (record { rising = tt; real = λ id row e. absurd (some_none row (sym e)) }, refl)

pub none_made : (base : Rows) (made : List RowChange) → IsDifference base base made → made ≡ []
none_made base made d = nothing made (one_difference identities base (map entry_of made) [] d.0 (no_difference base).0 d.1)
  where
    nothing : (made : List RowChange) → map entry_of made ≡ [] → made ≡ []
    nothing [] e = refl
    nothing (change ∷ made) e = cc

-- ---- the changes that are made in the store

module _ (world : World) (mapped : IsMapped world.model) (regular : IsRegular world) (named : (class : ℕ) → is_class world.model class ≡ true → is_discriminator (entity_at world.model class) ≡ true)
    (base : Rows) (changes : Changes) (set : StoredSet) (numbers : List ℕ) (s : Show world base changes set numbers) where
  unit : AreUnitRows world.model (rows_of world set numbers)
  unit = rows_of_unit world mapped regular named numbers s.numbered set s.storable

  own_id : (id : RowId) (row : Option Row) → find identity_cmp id changes ≡ Some row → is_id_of (schema_of world.model) id ≡ true
  own_id id row at = all_each (λ (change : RowId × Option Row). is_id_of (schema_of world.model) change.0 ≡ true) changes s.own (id, row) (found_has identities id row changes at)

  -- a row that is put is seen, and so it is one of the set's
  stands : (id : RowId) (row : Row) → find identity_cmp id changes ≡ Some (Some row) → Has (rows_of world set numbers) (id, row)
  stands id row at =
      found_has identities id row (rows_of world set numbers)
      (ap (find identity_cmp id) (sym s.seen) ∙ found_seen identities id base changes ∙ ap (λ o. over o (find identity_cmp id base)) at)

  one_change : (id : RowId) (row : Option Row) → find identity_cmp id changes ≡ Some row → IsChangeBy (table_of (schema_of world.model) id.table) (record { id = id; row = row })
  one_change id None at = drop_by (table_of (schema_of world.model) id.table) id (own_id id None at)
  one_change id (Some row) at =
      let has = stands id row at in
      put_by (table_of (schema_of world.model) id.table) id row (own_id id (Some row) at)
      (all_each (λ (e : RowId × Row). IsRowBy (table_of (schema_of world.model) (e.0).table) e.1) (rows_of world set numbers) unit.whole (id, row) has)
      (all_each (λ (e : RowId × Row). e.1 ≢ []) (rows_of world set numbers) unit.filled (id, row) has)

  pub are_changes : (made : List RowChange) → T (is_sorted identity_cmp (map entry_of made)) → All (λ change. find identity_cmp change.id changes ≡ Some change.row) made → AreChanges (schema_of world.model) made
  are_changes made rising among = record {
    rising = rising;
    each = λ k d less. one_change (get_or made k d).id (get_or made k d).row (among k d less);
  }
