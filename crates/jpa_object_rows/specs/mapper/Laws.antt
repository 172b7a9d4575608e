-- The laws of objects and their rows.
use Rattle.std.specs.Prelude.{◌≡◌, ℕ, true, List, Some}
use Rattle.std.specs.FinMap.{find}
use Rattle.jpa_value.specs.declared.value.Identity.{Identity}
use Rattle.jpa_value.specs.Value.{identity_cmp}
use Rattle.jpa_model.specs.Chains.{entity_at}
use Rattle.jpa_model.specs.Kept.{IsDescribed}
use Rattle.jpa_behaviour.specs.Behaviour.{World, IsRegular}
use Rattle.jpa_stored.specs.declared.objects.stored.Stored.{Stored}
use Rattle.jpa_stored.specs.objects.Sets.{StoredSet}
use Rattle.jpa_rows.specs.rows.Cells.{Cell, StandFor}
use Rattle.jpa_rows.specs.rows.Rows.{Row, Rows}
use Rattle.jpa_rows.specs.rows.Tables.{schema_of}
use Rattle.jpa_object_rows.specs.meaning.Unambiguous.{is_class}
use Rattle.jpa_object_rows.specs.meaning.View.{is_storable, Pairs}
use Rattle.jpa_object_rows.specs.meaning.Raw.{AreRowsOf}
use Rattle.jpa_object_rows.specs.meaning.Objects.{main_row, is_discriminator, object_rows}
use Rattle.jpa_object_rows.specs.meaning.Sets.{targets_in}
use Rattle.jpa_object_rows.specs.mapper.Mapped.{IsReadAs}
use Rattle.jpa_object_rows.specs.mapper.Own.{OwnAreOnes}

-- an object is read off these rows. They are rows of the unit, and its main row stands among them.
-- Its pairs are those that it owns, and their rows are those of pairs
pub record StandsWhole (world : World) (id : Identity) (x : Stored) (own : Rows) : Type 0 where
  pub rows : AreRowsOf (schema_of world.model) own
  pub main : find identity_cmp id own ≡ Some (main_row world x)
  pub read : IsReadAs world id (main_row world x) (targets_in world.model own id) x
  pub ones : OwnAreOnes world.model x.class id own

-- what is written for an object is read as the object
abbrev pub ReadsWhatIsWritten : Type 0
ReadsWhatIsWritten =
    (world : World) (id : Identity) (x : Stored) → IsDescribed world.model → IsRegular world →
    is_discriminator (entity_at world.model x.class) ≡ true →
    is_storable world id x ≡ true → StandsWhole world id x (object_rows world id x)

-- and as no other
abbrev pub ReadsOne : Type 0
ReadsOne =
    (world : World) (id : Identity) (row : Row) (pairs : Pairs) (x y : Stored) → IsDescribed world.model →
    IsRegular world →
    IsReadAs world id row pairs x → IsReadAs world id row pairs y → x ≡ y

-- a store's cells stand for at most one set and next numbers
abbrev pub StandForOne : Type 0
StandForOne =
    (world : World) (cells : List Cell) (set set' : StoredSet) (numbers numbers' : List ℕ) → IsDescribed world.model →
    IsRegular world →
    ((class : ℕ) → is_class world.model class ≡ true → is_discriminator (entity_at world.model class) ≡ true) →
    StandFor world cells set numbers → StandFor world cells set' numbers' → (set ≡ set') × (numbers ≡ numbers')
