-- When the objects, the next numbers and the revision of sound rows stand together.
use Rattle.std.specs.Prelude.{◌≡◌, ℕ, Bool, true, ◌==◌, ◌||◌, List, is_some}
use Rattle.std.specs.FinMap.{find}
use Rattle.jpa_value.specs.Value.{identity_cmp}
use Rattle.jpa_model.specs.declared.unit.PersistenceUnit.{PersistenceUnit}
use Rattle.jpa_stored.specs.objects.Sets.{StoredSet, IsSound}
use Rattle.jpa_rows.specs.rows.Cells.{keys_given}
use Rattle.jpa_rows.specs.rows.Rows.{Rows}
use Rattle.jpa_object_rows.specs.meaning.Objects.{number_id}
use Rattle.jpa_opening.specs.reader.Owners.{are_owned}

-- the row of the revision stands, where the revision has one
abbrev pub is_marked : PersistenceUnit → Rows → Bool
is_marked m rows = (m.revision == 1) || is_some (find identity_cmp (number_id 0) rows)

-- each pair has its owner, the set is sound, generated keys lie below the next numbers, and the
-- revision has its row
pub record StandTogether (m : PersistenceUnit) (rows : Rows) (set : StoredSet) (numbers : List ℕ) : Type 0 where
  pub owned : are_owned m set rows ≡ true
  pub sound : IsSound m set
  pub given : keys_given m set numbers ≡ true
  pub marked : is_marked m rows ≡ true
