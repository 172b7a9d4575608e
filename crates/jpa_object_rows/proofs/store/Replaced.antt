-- What is to stand under an identity put in the place of an old object, or nothing: the rows of the set with it, or without, are seen.
use Rattle.std.specs.Prelude.{◌≡◌, ℕ, Bool, true, false, not, T, List, [], ◌∷◌, Option, Some, None}
use Rattle.std.proofs.Common.{refl, sym, ap, subst, ◌∙◌}
use Rattle.std.specs.List.{list_any}
use Rattle.std.specs.FinMap.{find, is_sorted}
use Rattle.std.specs.Ordering.{eq_by_cmp}
use Rattle.jpa_value.specs.declared.value.Identity.{Identity}
use Rattle.jpa_value.specs.Value.{identity_cmp, same_identity}
use Rattle.jpa_model.specs.Chains.{entity_at, or_else}
use Rattle.jpa_behaviour.specs.Behaviour.{World, IsRegular}
use Rattle.jpa_stored.specs.declared.objects.stored.Stored.{Stored}
use Rattle.jpa_stored.specs.objects.Sets.{StoredSet, stored_at, with_stored, without}
use Rattle.jpa_rows.specs.declared.rows.schema.Schema.{Schema}
use Rattle.jpa_rows.specs.rows.Rows.{RowId, Rows, AreRising}
use Rattle.jpa_rows.specs.rows.Tables.{schema_of}
use Rattle.jpa_rows.specs.laws.Changes.{dropped}
use Rattle.jpa_rows.proofs.laws.Each.{each_put}
use Rattle.jpa_rows.proofs.laws.Elements.{found_has}
use Rattle.jpa_rows.proofs.laws.Lists.{all_each, all_where}
use Rattle.jpa_rows.proofs.laws.Maps.{same_key, found_put, dropped_other, put_rises, dropped_rises, same_answers, drop_by_answers}
use Rattle.jpa_object_rows.specs.meaning.Unambiguous.{IsUnambiguous, is_class}
use Rattle.jpa_object_rows.specs.meaning.View.{is_storable, AreStorable}
use Rattle.jpa_object_rows.proofs.meaning.Bytes.Mapped.{IsMapped}
use Rattle.jpa_object_rows.proofs.meaning.Bytes.MappedClasses.{unambiguous_mapped}
use Rattle.jpa_object_rows.proofs.meaning.Bytes.Orders.{identities}
use Rattle.jpa_object_rows.proofs.meaning.Bytes.SetLaws.{is_without}
use Rattle.jpa_object_rows.specs.meaning.Raw.{AreIds, AreNamed}
use Rattle.jpa_object_rows.specs.meaning.Objects.{is_discriminator, main_row, pair_ids, as_pairs, with_rows, without_rows, object_entries, object_rows, with_object, without_pairs, without_object}
use Rattle.jpa_object_rows.specs.meaning.Sets.{rows_of}
use Rattle.jpa_object_rows.proofs.meaning.Exact.{rows_of_unit, rows_put_in, rows_replaced_in, rows_dropped_in}
use Rattle.jpa_object_rows.proofs.meaning.Named.{object_named, pairs_named}
use Rattle.jpa_object_rows.proofs.meaning.Over.{found_over, over_rises, over_together, without_rises}
use Rattle.jpa_rows.specs.overlay.Overlay.{Changes, rows_under}
use Rattle.jpa_object_rows.specs.store.Shown.{with_puts, with_drops, entries_at, Show}
use Rattle.jpa_object_rows.specs.store.Written.{is_storable_if_any, with_or_without}
use Rattle.jpa_object_rows.proofs.store.Over.{ids_of, seen_puts, seen_drops, own_puts, own_drops}

-- an object of the set can be stored
pub old_storable : (world : World) (set : StoredSet) (id : Identity) (x : Stored) → AreStorable world set → stored_at set id ≡ Some x → is_storable world id x ≡ true
old_storable world set id x h at = all_each (λ (e : Identity × Stored). is_storable world e.0 e.1 ≡ true) set h (id, x) (found_has identities id x set at)

pairs_own : (schema : Schema) (ids : List RowId) → AreIds schema ids → AreNamed schema (as_pairs ids)
pairs_own schema [] h = tt
pairs_own schema (id ∷ ids) h = (h.0, pairs_own schema ids h.1)

pair_ids_again : (ids : List RowId) → ids_of (as_pairs ids) ≡ ids
pair_ids_again [] = refl
pair_ids_again (id ∷ ids) = ap (λ r. id ∷ r) (pair_ids_again ids)

-- ---- the main row is put whether or not one stood there

module _ (world : World) (id : Identity) (x : Stored) (rows : Rows) (rise : AreRising rows) where
  main_found : find identity_cmp id (object_rows world id x) ≡ Some (main_row world x)
  main_found = found_put identities id (main_row world x) (with_rows (as_pairs (pair_ids world id x)) [])

  -- what is found over rows without the main row
  same_found : (q : RowId) (same : Bool) → eq_by_cmp identity_cmp q id ≡ same
      → or_else (find identity_cmp q (object_rows world id x)) (find identity_cmp q (dropped identity_cmp id rows)) ≡ or_else (find identity_cmp q (object_rows world id x)) (find identity_cmp q rows)
  same_found q true e =
      let own : find identity_cmp q (object_rows world id x) ≡ Some (main_row world x) = ap (λ k. find identity_cmp k (object_rows world id x)) (same_key identities q id e) ∙ main_found in
      ap (λ o. or_else o (find identity_cmp q (dropped identity_cmp id rows))) own ∙ ap (λ o. or_else o (find identity_cmp q rows)) (sym own)
  same_found q false e = ap (or_else (find identity_cmp q (object_rows world id x))) (dropped_other identities q id rows e)

  over_dropped : with_object world id x (dropped identity_cmp id rows) ≡ with_object world id x rows
  over_dropped =
      let own = object_rows world id x in
      same_answers identities (with_rows own (dropped identity_cmp id rows)) (with_rows own rows) (over_rises own (dropped identity_cmp id rows) (dropped_rises identities id rows rise)) (over_rises own rows rise)
      (λ q. found_over q own (dropped identity_cmp id rows) ∙ same_found q (eq_by_cmp identity_cmp q id) refl ∙ sym (found_over q own rows))

module _ (world : World) (mapped : IsMapped world.model) (regular : IsRegular world) (named : (class : ℕ) → is_class world.model class ≡ true → is_discriminator (entity_at world.model class) ≡ true) where
  clear : IsUnambiguous world.model
  clear = unambiguous_mapped world.model mapped

  entries_own : (id : Identity) (x : Stored) → is_storable world id x ≡ true → AreNamed (schema_of world.model) (object_entries world id x)
  entries_own id x g = (object_named world clear id x g, pairs_own (schema_of world.model) (pair_ids world id x) (pairs_named world clear id x g))

  module _ (base : Rows) (changes : Changes) (set : StoredSet) (numbers : List ℕ) (s : Show world base changes set numbers) where
    before : Rows
    before = rows_of world set numbers

    before_rises : AreRising before
    unfolding before
    before_rises = ((rows_of_unit world mapped regular named numbers s.numbered set s.storable).named).rising

    module _ (id : Identity) where
      -- the rows of the old object are dropped, with its pairs
      module _ (old : Stored) (at : stored_at set id ≡ Some old) where
        olds : Rows
        olds = object_entries world id old

        old_own : AreNamed (schema_of world.model) olds
        unfolding olds
        old_own = entries_own id old (old_storable world set id old s.storable at)

        seen_gone : rows_under (with_drops olds changes) base ≡ without_object world id old before
        unfolding olds before
        seen_gone = seen_drops base s.below olds changes ∙ ap (without_rows (ids_of olds)) s.seen ∙ ap (λ ids. without_rows (id ∷ ids) before) (pair_ids_again (pair_ids world id old))

      -- the changes are of the unit's rows, and lead to this set, if its rows are seen
      module _ (x : Stored) (g : is_storable world id x ≡ true) where
        shows : (news : Changes) → Rattle.jpa_object_rows.specs.store.Shown.AreOf (schema_of world.model) news → rows_under news base ≡ rows_of world (with_stored id x set) numbers
            → Show world base news (with_stored id x set) numbers
        shows news own seen = record {
          below = s.below;
          own = own;
          rising = put_rises identities id x set s.rising;
          storable = each_put identities (λ id x. is_storable world id x ≡ true) id x set g s.storable;
          numbered = s.numbered;
          seen = seen;
        }

        put_over : (old : Option Stored) → stored_at set id ≡ old → Show world base (with_puts (object_entries world id x) (with_drops (entries_at world id old) changes)) (with_stored id x set) numbers
        unfolding before olds
        put_over None at =
            let own = object_entries world id x in
            shows (with_puts own changes) (own_puts (schema_of world.model) own changes (entries_own id x g) s.own)
            (seen_puts base s.below own changes ∙ ap (with_rows own) s.seen ∙ sym (over_together own before before_rises)
            ∙ rows_put_in world mapped regular named numbers s.numbered set s.rising s.storable id x g at)
        put_over (Some old) at =
            let own = object_entries world id x in
            let left = without_pairs world id old before in
            let left_rises = without_rises (pair_ids world id old) before before_rises in
            let gone = with_drops (olds old at) changes in
            shows (with_puts own gone)
            (own_puts (schema_of world.model) own gone (entries_own id x g) (own_drops (schema_of world.model) (olds old at) changes (old_own old at) s.own))
            (seen_puts base s.below own gone ∙ ap (with_rows own) (seen_gone old at) ∙ sym (over_together own (without_object world id old before) (dropped_rises identities id left left_rises))
            ∙ over_dropped world id x left left_rises
            ∙ rows_replaced_in world mapped regular named numbers s.numbered set s.rising s.storable id old at x g)

      -- where nothing is to stand
      none_left : (old : Option Stored) → stored_at set id ≡ old → Show world base (with_drops (entries_at world id old) changes) (without (id ∷ []) set) numbers
      unfolding before olds
      none_left None at =
          let same : set ≡ without (id ∷ []) set = drop_by_answers identities id set set s.rising s.rising at (λ q apart. refl) ∙ is_without id set in
          subst (λ (after : StoredSet). Show world base changes after numbers) same s
      none_left (Some old) at = record {
        below = s.below;
        own = own_drops (schema_of world.model) (olds old at) changes (old_own old at) s.own;
        rising = subst (λ (after : StoredSet). T (is_sorted identity_cmp after)) (is_without id set) (dropped_rises identities id set s.rising);
        storable = all_where (λ (e : Identity × Stored). is_storable world e.0 e.1 ≡ true) (λ (e : Identity × Stored). not (list_any (same_identity e.0) (id ∷ []))) set s.storable;
        numbered = s.numbered;
        seen = seen_gone old at ∙ rows_dropped_in world mapped regular named numbers s.numbered set s.rising s.storable id old at;
      }

      pub replaced : (new : Option Stored) → is_storable_if_any world id new ≡ true → (old : Option Stored) → stored_at set id ≡ old
          → Show world base (with_puts (entries_at world id new) (with_drops (entries_at world id old) changes)) (with_or_without id new set) numbers
      replaced None g old at = none_left old at
      replaced (Some x) g old at = put_over x g old at
