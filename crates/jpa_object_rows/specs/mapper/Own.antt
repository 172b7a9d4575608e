-- Which rows of join tables are those of an owner's pairs, and what is told where one of them is no
-- pair's (Jakarta Persistence 3.1, chapter 2.10.4: relations kept in join tables).
use Rattle.std.specs.Prelude.{◌≡◌, ◌⊎◌, ℕ, Bool, true, ◌==◌, ◌&&◌, is_some, ◌∷◌, ◌++◌}
use Rattle.std.specs.List.{list_any, AllByRecursion}
use Rattle.jpa_value.specs.declared.value.Identity.{Identity}
use Rattle.jpa_value.specs.declared.refusal.Cause.{Cause}
use Rattle.jpa_rows.specs.keys.Keys.{key_bytes}
use Rattle.jpa_model.specs.declared.unit.PersistenceUnit.{PersistenceUnit}
use Rattle.jpa_model.specs.Chains.{relations_of}
use Rattle.jpa_behaviour.specs.Behaviour.{World}
use Rattle.jpa_stored.specs.declared.objects.stored.Stored.{Stored}
use Rattle.jpa_rows.specs.rows.Cells.{join_tables}
use Rattle.jpa_rows.specs.rows.Rows.{RowId, Row, Rows}
use Rattle.jpa_object_rows.specs.meaning.Objects.{pair_row}
use Rattle.jpa_object_rows.specs.meaning.Sets.{key_after, targets_in}
use Rattle.jpa_object_rows.specs.mapper.Mapped.{IsReadAs, IsMainRow}

-- objects of the class keep pairs in this table
abbrev pub keeps_pairs_in : PersistenceUnit → ℕ → ℕ → Bool
keeps_pairs_in m class table = list_any (λ r. list_any (λ t. t == table) (join_tables r.side)) (relations_of m class)

-- the id is that of a pair of this owner, an object of the class
abbrev pub is_own_pair : PersistenceUnit → ℕ → Identity → RowId → Bool
is_own_pair m class owner id = keeps_pairs_in m class id.table && is_some (key_after owner.key id.key)

-- the rows of this owner's pairs are those that a pair has; others may be anything
abbrev pub OwnAreOnes : PersistenceUnit → ℕ → Identity → Rows → Type 0
OwnAreOnes m class owner = AllByRecursion (λ e. is_own_pair m class owner e.0 ≡ true → e.1 ≡ pair_row)

-- the lowest row of this owner's pairs that no pair has, and the refusal that tells of it
pub record IsDamagedPair (m : PersistenceUnit) (class : ℕ) (owner : Identity) (rows : Rows)
    (cause : Cause) : Type 0 where
  pub front : Rows
  pub id : RowId
  pub row : Row
  pub back : Rows
  pub split : rows ≡ front ++ (id, row) ∷ back
  pub first : OwnAreOnes m class owner front
  pub own : is_own_pair m class owner id ≡ true
  pub damaged : row ≡ pair_row → ⊥
  pub told : cause ≡ Cause.Damaged id.table (key_bytes id.key)

-- want of memory, a row that is no object's main row, or else the lowest row of the object's pairs
-- that no pair has
abbrev pub IsRefused : World → Identity → Row → Rows → Cause → Type 0
IsRefused world id row pairs cause =
    (cause ≡ Cause.OutOfMemory)
    ⊎ (((cause ≡ Cause.Damaged id.table (key_bytes id.key)) × (IsMainRow world id row → ⊥))
    ⊎ ((x : Stored) × IsReadAs world id row (targets_in world.model pairs id) x
    × IsDamagedPair world.model x.class id pairs cause))
