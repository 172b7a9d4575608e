-- Rows that an object, a pair or a next number may have, and that of the revision.
use Rattle.std.specs.Prelude.{◌≡◌, ◌⊎◌, ℕ, pos, Bool, true, nat_lt}
use Rattle.std.specs.List.{list_any, AllByRecursion}
use Rattle.jpa_value.specs.Value.{is_i64}
use Rattle.jpa_model.specs.declared.unit.Root.{Root}
use Rattle.jpa_model.specs.declared.unit.Origin.{Origin}
use Rattle.jpa_model.specs.declared.unit.PersistenceUnit.{PersistenceUnit}
use Rattle.jpa_model.specs.Chains.{entity_at}
use Rattle.jpa_behaviour.specs.Behaviour.{World}
use Rattle.jpa_rows.specs.rows.Rows.{RowId, Row, Rows}
use Rattle.jpa_rows.specs.rows.Tables.{classes}
use Rattle.jpa_object_rows.specs.meaning.Identities.{declares}
use Rattle.jpa_object_rows.specs.meaning.Unambiguous.{is_class}
use Rattle.jpa_object_rows.specs.meaning.Objects.{pair_row, number_id, number_row}
use Rattle.jpa_object_rows.specs.mapper.Mapped.{IsMainRow}

-- the next number, above 1, of a hierarchy with generated keys
pub record IsNumberRow (m : PersistenceUnit) (id : RowId) (row : Row) : Type 0 where
  pub class : ℕ
  pub root : Root
  pub next : ℕ
  pub within : is_class m class ≡ true
  pub origin : (entity_at m class).origin ≡ Origin.Root root
  pub generated : root.generated ≡ true
  pub under : id ≡ number_id root.table
  pub says : row ≡ number_row next
  pub more : nat_lt 1 next ≡ true
  pub small : is_i64 (pos next) ≡ true

-- the row of revision 2
pub record IsRevisionRow (m : PersistenceUnit) (id : RowId) (row : Row) : Type 0 where
  pub second : m.revision ≡ 2
  pub under : id ≡ number_id 0
  pub says : row ≡ number_row 2

-- the table is a join table
abbrev pub is_join : PersistenceUnit → ℕ → Bool
is_join m table = list_any (λ class. declares table (entity_at m class)) (classes m)

-- a row of a join table
pub record IsPairRow (m : PersistenceUnit) (id : RowId) (row : Row) : Type 0 where
  pub join : is_join m id.table ≡ true
  pub says : row ≡ pair_row

-- a row is that of the revision, of a next number, of a pair or of an object
abbrev pub IsSoundRow : World → RowId → Row → Type 0
IsSoundRow world id row = IsRevisionRow world.model id row
    ⊎ (IsNumberRow world.model id row ⊎ (IsPairRow world.model id row ⊎ IsMainRow world id row))

-- each row by itself is sound
abbrev pub AreSoundRows : World → Rows → Type 0
AreSoundRows world = AllByRecursion (λ e. IsSoundRow world e.0 e.1)
