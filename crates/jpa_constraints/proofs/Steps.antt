-- How a set comes to be changed from a sound one: nothing is changed first, and then an object is put or taken out where
-- nothing was changed before.
use Rattle.std.specs.Prelude.{◌≡◌, option_map, Some, Bool, true, false, ◌||◌, T, List, [], ◌∷◌, ◌++◌, cond}
use Rattle.std.proofs.Common.{refl, sym, ap, ◌∙◌}
use Rattle.std.specs.FinMap.Entries.{is_sorted, find-put}
use Rattle.std.proofs.lemmas.Bool.{true≢false}
use Rattle.std.proofs.lemmas.List.Folds.{list_any-append}
use Rattle.std.proofs.lemmas.List.Elements.{All-nil, All-push}
use Rattle.jpa_value.specs.declared.value.Identity.{Identity}
use Rattle.jpa_value.specs.Value.{identity_cmp, same_identity}
use Rattle.jpa_value.proofs.Orders.{identity_total}
use Rattle.jpa_model.specs.declared.unit.PersistenceUnit.{PersistenceUnit}
use Rattle.jpa_stored.specs.declared.objects.stored.Stored.{Stored}
use Rattle.jpa_stored.specs.objects.Sets.{StoredSet, stored_at, with_stored, without, IsSound}
use Rattle.jpa_open.proofs.Layers.{found_without, kept_if}
use Rattle.jpa_constraints.specs.declared.change.Change.{Change}
use Rattle.jpa_constraints.specs.Changed.{class_at, is_changed, IsChangedFrom}

or_first : (a b : Bool) → (a || b) ≡ false → a ≡ false
or_first false b h = refl
or_first true b h = h

or_second : (a b : Bool) → (a || b) ≡ false → b ≡ false
or_second false b h = h
or_second true b h = absurd (true≢false h)

module _ (m : PersistenceUnit) (before : StoredSet) where
  abbrev IsOf : Change → Type 0
  IsOf c = c.class_before ≡ class_at before c.id.now

  pub unchanged : T (is_sorted identity_cmp before) → IsSound m before → IsChangedFrom m before [] before
  unchanged rising sound = record { rising = rising; sound = sound; elsewhere = λ q c. refl; classes = All-nil IsOf }

  module _ (cs : List Change) (c : Change) (s : StoredSet) (from : IsChangedFrom m before cs s) (new : is_changed cs c.id.now ≡ false) (class : c.class_before ≡ class_at s c.id.now) where
    parts : (q : Identity) → is_changed (cs ++ c ∷ []) q ≡ false → (is_changed cs q ≡ false) × (same_identity q c.id.now ≡ false)
    parts q h =
        let e : (is_changed cs q || (same_identity q c.id.now || false)) ≡ false = sym (list_any-append (λ (d : Change). same_identity q d.id.now) cs (c ∷ [])) ∙ h in
        (or_first (is_changed cs q) (same_identity q c.id.now || false) e, or_first (same_identity q c.id.now) false (or_second (is_changed cs q) (same_identity q c.id.now || false) e))

    more : (t : StoredSet) → ((q : Identity) → same_identity q c.id.now ≡ false → stored_at t q ≡ stored_at s q) → IsChangedFrom m before (cs ++ c ∷ []) t
    more t others = record {
      rising = from.rising;
      sound = from.sound;
      elsewhere = λ q h. others q (parts q h).1 ∙ from.elsewhere q (parts q h).0;
      classes = All-push IsOf cs c from.classes (class ∙ ap (λ o. option_map (λ (x : Stored). x.class) o) (from.elsewhere c.id.now new));
    }

    pub put_next : (x : Stored) → IsChangedFrom m before (cs ++ c ∷ []) (with_stored c.id.now x s)
    put_next x = more (with_stored c.id.now x s) (λ q h. find-put identity_cmp identity_total q c.id.now x s ∙ ap (λ b. cond b (Some x) (stored_at s q)) h)

    pub taken_next : IsChangedFrom m before (cs ++ c ∷ []) (without (c.id.now ∷ []) s)
    taken_next = more (without (c.id.now ∷ []) s) (λ q h. found_without q (c.id.now ∷ []) s ∙ ap (λ b. kept_if (b || false) (stored_at s q)) h)
