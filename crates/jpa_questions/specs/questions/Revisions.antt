-- Of which revision a store is, as far as a question asks it.
use Rattle.std.specs.Prelude.{◌≡◌, ◌⊎◌, ◌==◌, not, Bool, is_some, Result, Ok, Err}
use Rattle.std.specs.FinMap.{find}
use Rattle.jpa_value.specs.Value.{identity_cmp}
use Rattle.jpa_value.specs.declared.refusal.Cause.{Cause}
use Rattle.jpa_rows.specs.keys.Keys.{key_bytes}
use Rattle.jpa_model.specs.declared.unit.PersistenceUnit.{PersistenceUnit}
use Rattle.jpa_object_rows.specs.meaning.Objects.{number_id}
use Rattle.jpa_rows.specs.rows.Faults.{IsStoreCause}
use Rattle.jpa_rows.specs.rows.Rows.{Rows}

-- the rows have that of the revision just where the unit's revision has one, which 2 has
abbrev pub AreOfRevision : PersistenceUnit → Rows → Type 0
AreOfRevision m rows = is_some (find identity_cmp (number_id 0) rows) ≡ not (m.revision == 1)

-- the row of the revision is told
abbrev pub IsOtherRevision : Cause → Type 0
IsOtherRevision cause = cause ≡ Cause.Damaged 0 (key_bytes (number_id 0).key)

-- where the row of the revision is there just where the unit's revision has one, nothing is refused;
-- else that row is told, or memory is wanting
abbrev pub TellsMark : {A : Type 0} → PersistenceUnit → Bool → Result A Cause → Type 0
TellsMark m is_there (Ok x) = is_there ≡ not (m.revision == 1)
TellsMark m is_there (Err cause) =
    (cause ≡ Cause.OutOfMemory) ⊎ (IsOtherRevision cause × (is_there ≡ (m.revision == 1)))

-- the rows are of the unit's revision, or this is refused; or the store is not read
abbrev pub TellsRevision : {A : Type 0} → PersistenceUnit → Rows → Result A Cause → Type 0
TellsRevision m rows (Ok x) = AreOfRevision m rows
TellsRevision m rows (Err cause) = IsStoreCause cause ⊎ (IsOtherRevision cause × (AreOfRevision m rows → ⊥))
