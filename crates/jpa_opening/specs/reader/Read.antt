-- What a row says, and the set that rows say.
use Rattle.std.specs.Prelude.{◌≡◌, ◌<◌, true, is_some, length, Option, Some, None}
use Rattle.std.specs.List.{AllByRecursion}
use Rattle.jpa_model.specs.declared.unit.PersistenceUnit.{PersistenceUnit}
use Rattle.jpa_behaviour.specs.Behaviour.{World}
use Rattle.jpa_stored.specs.declared.objects.stored.Stored.{Stored}
use Rattle.jpa_stored.specs.objects.Sets.{StoredSet, stored_at, with_stored}
use Rattle.jpa_rows.specs.rows.Rows.{RowId, Row, Rows}
use Rattle.jpa_object_rows.specs.meaning.Sets.{set_in, targets_in}
use Rattle.jpa_object_rows.specs.mapper.Mapped.{IsReadAs, IsMainRow}
use Rattle.jpa_opening.specs.reader.Sound.{IsNumberRow, IsRevisionRow, IsPairRow, IsSoundRow, AreSoundRows}
use Rattle.jpa_opening.specs.reader.Judged.{IsFirstDamaged}
use Rattle.jpa_opening.specs.declared.reader.meaning.Meaning.{Meaning}
use Rattle.jpa_opening.specs.declared.reader.objects.Objects.{Objects}

-- what a row says: an object, with its pairs among the rows, a pair, a next number, or the revision
abbrev pub Says : World → Rows → RowId → Row → Meaning → Type 0
Says world rows id row (Meaning.Object x) = IsReadAs world id row (targets_in world.model rows id) x
Says world rows id row Meaning.Pair = IsPairRow world.model id row
Says world rows id row Meaning.Number = IsNumberRow world.model id row
Says world rows id row Meaning.Revision = IsRevisionRow world.model id row

-- a sound row says this meaning, and one without a meaning is not sound
abbrev pub SaysIfSound : World → Rows → RowId → Row → Option Meaning → Type 0
SaysIfSound world rows id row None = IsSoundRow world id row → ⊥
SaysIfSound world rows id row (Some meaning) = Says world rows id row meaning

-- a set with the object that a row says
abbrev pub with_meaning : RowId → Meaning → StoredSet → StoredSet
with_meaning id (Meaning.Object x) set = with_stored id x set
with_meaning id Meaning.Pair set = set
with_meaning id Meaning.Number set = set
with_meaning id Meaning.Revision set = set

-- an object stands under the id of each main row
abbrev pub HaveObjects : World → StoredSet → Rows → Type 0
HaveObjects world set = AllByRecursion (λ e. IsMainRow world e.0 e.1 → is_some (stored_at set e.0) ≡ true)

-- each row is sound, and these are their objects
pub record AreObjectsOf (world : World) (rows : Rows) (set : StoredSet) : Type 0 where
  pub sound : AreSoundRows world rows
  pub same : set ≡ set_in world rows
  pub each : HaveObjects world set rows

-- what was read of rows: their set, or the place of the first damaged one
abbrev pub AreRead : World → Rows → Objects → Type 0
AreRead world rows (Objects.Set set) = AreObjectsOf world rows set
AreRead world rows (Objects.Damaged place) = IsFirstDamaged world rows place

-- each object is of a class of the unit
abbrev pub AreOfClasses : PersistenceUnit → StoredSet → Type 0
AreOfClasses m = AllByRecursion (λ e. (e.1).class < length m.entities)

-- the object of a main row, with its pairs among the rows, where it is one
abbrev pub IsObjectOf : World → Rows → RowId → Row → Option Stored → Type 0
IsObjectOf world rows id row None = IsMainRow world id row → ⊥
IsObjectOf world rows id row (Some x) = IsReadAs world id row (targets_in world.model rows id) x
