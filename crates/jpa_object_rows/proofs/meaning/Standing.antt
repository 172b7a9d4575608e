-- Objects that stand in the rows of a set, new ones where no pairs stand, and the changes that put one.
use Rattle.std.specs.Prelude.{◌≡◌, ℕ, true, T, List, [], map, Some}
use Rattle.std.proofs.Common.{sym, ap, subst, ◌∙◌}
use Rattle.std.specs.FinMap.{is_sorted}
use Rattle.jpa_value.specs.declared.value.Identity.{Identity}
use Rattle.jpa_value.specs.Value.{identity_cmp}
use Rattle.jpa_model.specs.declared.unit.Relation.{Relation}
use Rattle.jpa_model.specs.Chains.{entity_at, relations_of}
use Rattle.jpa_behaviour.specs.Behaviour.{World, IsRegular}
use Rattle.jpa_stored.specs.declared.objects.stored.Stored.{Stored}
use Rattle.jpa_stored.specs.objects.Sets.{StoredSet, stored_at, with_stored}
use Rattle.jpa_rows.specs.rows.Cells.{are_numbers}
use Rattle.jpa_rows.specs.rows.Rows.{Rows, AreChanges, rows_after}
use Rattle.jpa_rows.specs.rows.Tables.{schema_of}
use Rattle.jpa_rows.proofs.laws.Elements.{Has, found_has, from_map}
use Rattle.jpa_rows.proofs.laws.Lists.{all_each}
use Rattle.jpa_object_rows.specs.meaning.Unambiguous.{IsUnambiguous, is_class}
use Rattle.jpa_object_rows.specs.meaning.View.{is_storable, AreStorable, PairsAre, HoldsNone}
use Rattle.jpa_object_rows.specs.meaning.View as view
use Rattle.jpa_object_rows.proofs.meaning.Bytes.Orders.{identities}
use Rattle.jpa_object_rows.proofs.meaning.Bytes.Mapped.{IsMapped}
use Rattle.jpa_object_rows.proofs.meaning.Bytes.MappedClasses.{unambiguous_mapped}
use Rattle.jpa_object_rows.proofs.meaning.Bytes.Reading.{storable, object_spelled}
use Rattle.jpa_object_rows.specs.meaning.Raw.{raw, AreRowsOf}
use Rattle.jpa_object_rows.specs.meaning.Objects.{is_discriminator, object_entries, object_rows, with_object, changes_to}
use Rattle.jpa_object_rows.specs.meaning.Sets.{set_in, targets_in, AreUnitRows, StandsIn, rows_of}
use Rattle.jpa_object_rows.proofs.meaning.Changes.{after_changes, are_changes}
use Rattle.jpa_object_rows.proofs.meaning.Over.{over_together}
use Rattle.jpa_object_rows.proofs.meaning.Named.{object_named}
use Rattle.jpa_object_rows.proofs.meaning.Sets.{put_rows, set_put_in}
use Rattle.jpa_object_rows.proofs.meaning.Stored.{pairs_same, same_pairs}
use Rattle.jpa_object_rows.proofs.meaning.Read.{stands_in}
use Rattle.jpa_object_rows.proofs.meaning.Kept.{object_rows_whole, object_rows_filled}
use Rattle.jpa_object_rows.proofs.meaning.Exact.{rows_of_unit, set_read_in}

-- each object of a set stands in its rows
pub set_stands : (world : World) → IsMapped world.model → IsRegular world → ((class : ℕ) → is_class world.model class ≡ true → is_discriminator (entity_at world.model class) ≡ true)
    → (numbers : List ℕ) → are_numbers world.model numbers ≡ true → (set : StoredSet) → T (is_sorted identity_cmp set) → AreStorable world set
    → (id : Identity) (x : Stored) → stored_at set id ≡ Some x → StandsIn world (rows_of world set numbers) id x
set_stands world mapped regular named numbers are set up h id x at =
    let clear = unambiguous_mapped world.model mapped in
    let g = all_each (λ (e : Identity × Stored). is_storable world e.0 e.1 ≡ true) set h (id, x) (found_has identities id x set at) in
    let unit = rows_of_unit world mapped regular named numbers are set h in
    (stands_in world mapped regular (rows_of world set numbers) unit.named unit.whole unit.ones named id x (object_named world clear id x g) (object_spelled world clear id x g)
    (ap (λ s. stored_at s id) (set_read_in world mapped regular named numbers are set up h) ∙ at)).1

-- a new object, where the owner's key begins no row of its join tables
pub set_put_new : (world : World) → IsUnambiguous world.model → IsRegular world → (id : Identity) (x : Stored) → is_storable world id x ≡ true → (rows : Rows) → AreUnitRows world.model rows
    → PairsAre (targets_in world.model rows id) (map (λ r. (r, [])) (relations_of world.model x.class)) → set_in world (with_object world id x rows) ≡ with_stored id x (set_in world rows)
set_put_new world clear regular id x g rows h none =
    let m = world.model in
    let s = storable world id x g in
    let relations = relations_of m x.class in
    set_put_in world clear id x g rows h.named regular
    (same_pairs (targets_in m rows id) (view.pairs_of m (raw rows) id) (map (λ r. (r, [])) relations)
    (λ p k join side.
    let r = from_map (λ (r : Relation). (r, [])) relations p k in
    sym (pairs_same m clear x.class s.class id s.of_root s.named rows h.named h.ones p.0 (subst (Has relations) (ap (λ (q : Relation × List Identity). q.0) r.2) r.1) join side))
    none)

-- ---- the changes that put an object

module _ (world : World) (mapped : IsMapped world.model) (regular : IsRegular world) (id : Identity) (x : Stored) (g : is_storable world id x ≡ true)
    (named : is_discriminator (entity_at world.model x.class) ≡ true) where
  object_rows_named : AreRowsOf (schema_of world.model) (object_rows world id x)
  object_rows_named =
      subst (AreRowsOf (schema_of world.model)) (over_together (object_entries world id x) [] tt)
      (put_rows world (unambiguous_mapped world.model mapped) id x g [] (record { rising = tt; named = tt }))

  pub object_changes : AreChanges (schema_of world.model) (changes_to (object_rows world id x))
  object_changes =
      are_changes (schema_of world.model) (object_rows world id x) object_rows_named (object_rows_whole world mapped regular id x g named) (object_rows_filled world id x)

-- and what they do
pub object_changed : (world : World) (id : Identity) (x : Stored) (rows : Rows) → rows_after (changes_to (object_rows world id x)) rows ≡ with_object world id x rows
object_changed world id x rows = after_changes (object_rows world id x) rows
