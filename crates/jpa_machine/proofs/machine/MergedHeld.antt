-- A store can hold what it can hold with what others changed of it, where that is sound.
use Rattle.std.proofs.Common.{◌≡◌, ℕ, Bool, true, List, [], ◌∷◌, refl}
use Rattle.std.specs.Prelude.{Option, Some, None}
use Rattle.std.specs.List.{list_all}
use Rattle.jpa_value.specs.declared.value.Identity.{Identity}
use Rattle.jpa_behaviour.specs.Behaviour.{World}
use Rattle.jpa_stored.specs.declared.objects.stored.Stored.{Stored}
use Rattle.jpa_stored.specs.objects.Sets.{StoredSet, stored_at, fault_of}
use Rattle.jpa_rows.specs.rows.Cells.{CanBeHeld}
use Rattle.jpa_open.specs.Differences.{with_or_without, set_after, entries_of, differing, merged}
use Rattle.jpa_open.proofs.MergedSets.{merged_rises}
use Rattle.jpa_machine.proofs.machine.Loaded.{row_holds}
use Rattle.jpa_machine.proofs.machine.Whole.{all_with, all_without}

module _ (p : Identity × Stored → Bool) (seen : StoredSet) (all : list_all p seen ≡ true) where
  one_holds : (id : Identity) (o : Option Stored) → stored_at seen id ≡ o → (s : StoredSet) → list_all p s ≡ true → list_all p (with_or_without id o s) ≡ true
  one_holds id None e s h = all_without p (id ∷ []) s h
  one_holds id (Some x) e s h = all_with p id x s (row_holds p id x seen all e) h

  pub after_holds_all : (ids : List Identity) (s : StoredSet) → list_all p s ≡ true → list_all p (set_after (entries_of seen ids) s) ≡ true
  after_holds_all [] s h = h
  after_holds_all (id ∷ ids) s h = after_holds_all ids (with_or_without id (stored_at seen id) s) (one_holds id (stored_at seen id) refl s h)

pub merged_held : {world : World} (committed begun seen : StoredSet) (numbers : List ℕ) → CanBeHeld world committed numbers → CanBeHeld world seen numbers → fault_of world.model (merged committed begun seen) ≡ None →
    CanBeHeld world (merged committed begun seen) numbers
merged_held {world} committed begun seen numbers a b sound =
    let ids = differing begun seen in
    record {
      representable = after_holds_all _ seen b.representable ids committed a.representable;
      numbered = a.numbered;
      rising = merged_rises committed begun seen a.rising;
      shaped = after_holds_all _ seen b.shaped ids committed a.shaped;
      sound = sound;
      converted = after_holds_all _ seen b.converted ids committed a.converted;
      given = after_holds_all _ seen b.given ids committed a.given;
    }
