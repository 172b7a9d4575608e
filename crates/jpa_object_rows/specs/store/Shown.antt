-- Changes over rows, and the set and the next numbers whose rows are seen under them.
use Rattle.std.specs.Prelude.{◌≡◌, ◌==◌, if◌then◌else◌, ℕ, true, T, List, [], ◌∷◌, Option, Some, None}
use Rattle.std.specs.List.{AllByRecursion}
use Rattle.std.specs.FinMap.{is_sorted}
use Rattle.jpa_value.specs.declared.value.Identity.{Identity}
use Rattle.jpa_value.specs.Value.{identity_cmp}
use Rattle.jpa_model.specs.declared.unit.Origin.{Origin}
use Rattle.jpa_behaviour.specs.Behaviour.{World}
use Rattle.jpa_stored.specs.declared.objects.stored.Stored.{Stored}
use Rattle.jpa_stored.specs.objects.Sets.{StoredSet, stored_at}
use Rattle.jpa_rows.specs.declared.rows.schema.Schema.{Schema}
use Rattle.jpa_rows.specs.rows.Cells.{are_numbers, CanBeHeld}
use Rattle.jpa_rows.specs.rows.Rows.{Rows, AreRising}
use Rattle.jpa_rows.specs.rows.Tables.{schema_of}
use Rattle.jpa_object_rows.specs.meaning.View.{AreStorable}
use Rattle.jpa_object_rows.specs.meaning.Raw.{is_id_of}
use Rattle.jpa_object_rows.specs.meaning.Objects.{number_id, number_row, object_entries}
use Rattle.jpa_object_rows.specs.meaning.Sets.{rows_of}
use Rattle.jpa_rows.specs.overlay.Overlay.{Changes, Recalls, with_change, rows_under}
use Rattle.jpa_object_rows.specs.store.Written.{with_or_without}

-- ---- more changes: rows put, or dropped

-- changes with these rows put
abbrev pub with_puts : Rows → Changes → Changes
with_puts [] changes = changes
with_puts (e ∷ es) changes = with_change e.0 (Some e.1) (with_puts es changes)

-- changes with these rows dropped
abbrev pub with_drops : Rows → Changes → Changes
with_drops [] changes = changes
with_drops (e ∷ es) changes = with_change e.0 None (with_drops es changes)

-- the rows of what stands under an identity: of an object, or none
abbrev pub entries_at : World → Identity → Option Stored → Rows
entries_at world id None = []
entries_at world id (Some x) = object_entries world id x

-- of the object that a set has there, or none
abbrev pub entries_stood : World → StoredSet → Identity → Rows
entries_stood world set id = entries_at world id (stored_at set id)

-- the row of a root's next number, put
abbrev pub with_next : Origin → ℕ → Changes → Changes
with_next (Origin.Root root) k changes = with_change (number_id root.table) (Some (number_row k)) changes
with_next (Origin.Extends parent) k changes = changes

-- the same, to say that it stood, where 1 has no row
abbrev pub with_old_next : Origin → ℕ → Changes → Changes
with_old_next origin k stood = if k == 1 then stood else with_next origin k stood

-- ---- what is seen

-- changes of rows of the schema's tables
abbrev pub AreOf : Schema → Changes → Type 0
AreOf schema = AllByRecursion (λ change. is_id_of schema change.0 ≡ true)

-- under the changes the rows of this set and these next numbers are seen, in place of those that
-- they lie over
pub record Show (world : World) (base : Rows) (changes : Changes) (set : StoredSet) (numbers : List ℕ) : Type 0 where
  pub below : AreRising base
  pub own : AreOf (schema_of world.model) changes
  pub rising : T (is_sorted identity_cmp set)
  pub storable : AreStorable world set
  pub numbered : are_numbers world.model numbers ≡ true
  pub seen : rows_under changes base ≡ rows_of world set numbers

-- what the first say stood under an id does stand there, and so it does under each id that is
-- changed
pub record Recall (base : Rows) (stood changes : Changes) : Type 0 where
  pub own : Recalls stood stood base
  pub changed : Recalls stood changes base

-- ---- what a step of changes does to what is seen

-- where the one set was seen before, the other is seen after, over any rows and with any next
-- numbers
abbrev pub Brings : World → StoredSet → StoredSet → Changes → Changes → Type 0
Brings world one other before after =
    (base : Rows) (numbers : List ℕ) → Show world base before one numbers → Show world base after other numbers

-- where a set was seen with the old object under an identity, or none, it is seen with the new one,
-- or none
abbrev pub Replaces : World → Identity → Option Stored → Option Stored → Changes → Changes → Type 0
Replaces world id old new before after =
    (base : Rows) (set : StoredSet) (numbers : List ℕ) → stored_at set id ≡ old
    → Show world base before set numbers → Show world base after (with_or_without id new set) numbers

-- what stood in a set that can be held is recalled after as it was before
abbrev pub RecallsStill : World → StoredSet → Changes → Changes → Changes → Changes → Type 0
RecallsStill world set stood_before before stood_after after =
    (numbers : List ℕ) → CanBeHeld world set numbers
    → Recall (rows_of world set numbers) stood_before before → Recall (rows_of world set numbers) stood_after after
