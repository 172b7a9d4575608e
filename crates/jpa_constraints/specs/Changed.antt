-- Changes of a set that was sound: where something was written or taken out, and of which class
-- what stood there was.
use Rattle.std.specs.Prelude.{◌≡◌, ℕ, Bool, false, T, All, List, Option, option_map}
use Rattle.std.specs.List.{list_any}
use Rattle.std.specs.FinMap.Entries.{is_sorted}
use Rattle.jpa_value.specs.declared.value.Identity.{Identity}
use Rattle.jpa_value.specs.Value.{identity_cmp, same_identity}
use Rattle.jpa_model.specs.declared.unit.PersistenceUnit.{PersistenceUnit}
use Rattle.jpa_stored.specs.objects.Sets.{StoredSet, stored_at, IsSound}
use Rattle.jpa_constraints.specs.declared.change.Change.{Change}

-- the class of what stands under the identity, if anything does
abbrev pub class_at : StoredSet → Identity → Option ℕ
class_at s id = option_map (λ x. x.class) (stored_at s id)

-- one of the changes is at the identity
abbrev pub is_changed : List Change → Identity → Bool
is_changed changes q = list_any (λ c. same_identity q c.id.now) changes

-- the set after the changes has elsewhere what a sound set had before them
pub record IsChangedFrom (m : PersistenceUnit) (before : StoredSet) (changes : List Change)
    (after : StoredSet) : Type 0 where
  pub rising : T (is_sorted identity_cmp before)
  pub sound : IsSound m before
  pub elsewhere : (q : Identity) → is_changed changes q ≡ false → stored_at after q ≡ stored_at before q
  pub classes : All (λ c. c.class_before ≡ class_at before c.id.now) changes

-- the set after the changes comes from a sound one
abbrev pub IsChanged : PersistenceUnit → List Change → StoredSet → Type 0
IsChanged m changes after = (before : StoredSet) × IsChangedFrom m before changes after
