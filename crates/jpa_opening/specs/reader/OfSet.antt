-- Rows that were read already: of which set they are, and what is told where they are of none.
use Rattle.std.specs.Prelude.{◌≡◌, ℕ, List, None}
use Rattle.jpa_value.specs.declared.refusal.Cause.{Cause}
use Rattle.jpa_behaviour.specs.Behaviour.{World}
use Rattle.jpa_stored.specs.objects.Sets.{StoredSet}
use Rattle.jpa_rows.specs.rows.Cells.{CanBeHeld}
use Rattle.jpa_rows.specs.rows.Rows.{Rows}
use Rattle.jpa_rows.specs.rows.Tables.{schema_of}
use Rattle.jpa_object_rows.specs.meaning.Sets.{rows_of}
use Rattle.jpa_cells.specs.rowspace.Stored.{AreRowsOf}
use Rattle.jpa_opening.specs.reader.Reads.{IsTold}

-- the rows are those of a set and of next numbers, which a store can hold
pub record AreOf (world : World) (rows : Rows) (set : StoredSet) (numbers : List ℕ) : Type 0 where
  pub held : CanBeHeld world set numbers
  pub same : rows ≡ rows_of world set numbers

-- the rows are of no such set, and the cause tells it: by the first row that is not sound, or by the place of none
pub record TellsNone (world : World) (rows : Rows) (cause : Cause) : Type 0 where
  pub table : ℕ
  pub bytes : List ℕ
  pub damaged : cause ≡ Cause.Damaged table bytes
  pub told : AreRowsOf (schema_of world.model) rows → IsTold world rows None table bytes
  pub none : (set : StoredSet) (numbers : List ℕ) → AreOf world rows set numbers → ⊥
