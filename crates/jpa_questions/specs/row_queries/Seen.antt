-- The set that is seen: the one whose rows a store holds under changes.
use Rattle.std.specs.Prelude.{ℕ, List}
use Rattle.jpa_model.specs.declared.unit.PersistenceUnit.{PersistenceUnit}
use Rattle.jpa_behaviour.specs.Behaviour.{World}
use Rattle.jpa_stored.specs.objects.Sets.{StoredSet}
use Rattle.jpa_rows.specs.declared.rows.reader.RowReader.{Ghosts}
use Rattle.jpa_rows.specs.rows.Rows.{Rows, AreRising}
use Rattle.jpa_rows.specs.rows.Tables.{schema_of}
use Rattle.jpa_object_rows.specs.meaning.Raw.{AreRowsOf}
use Rattle.jpa_rows.specs.overlay.Overlay.{Changes, rows_under}
use Rattle.jpa_opening.specs.reader.OfSet.{AreOf}

-- the store's rows are under the changes those of this set and these next numbers, which a store can hold
pub record SeesSet {S : Type 0} (store : Ghosts S) (world : World) (changes : Changes) (source : S) (set : StoredSet)
    (numbers : List ℕ) : Type 0 where
  pub rows : Rows
  pub rising : AreRising rows
  pub held : store.holds source rows
  pub of : AreOf world (rows_under changes rows) set numbers

-- the store's rows are under the changes rows of the metamodel's tables, of a set or of none
pub record SeesRows {S : Type 0} (store : Ghosts S) (m : PersistenceUnit) (changes : Changes)
    (source : S) : Type 0 where
  pub rows : Rows
  pub rising : AreRising rows
  pub held : store.holds source rows
  pub named : AreRowsOf (schema_of m) (rows_under changes rows)

-- the rows are just those of this set, with some next numbers
abbrev pub AreJustOf : World → Rows → StoredSet → Type 0
AreJustOf world rows set = (numbers : List ℕ) × AreOf world rows set numbers
