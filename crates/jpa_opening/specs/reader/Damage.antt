-- What is told of cells that stand for no set: the lowest damaged row, or that none by itself is.
use Rattle.std.specs.Prelude.{◌≡◌, ◌⊎◌, ℕ, pos, true, nat_lt, List, [], ◌∷◌, ◌++◌, map, Some}
use Rattle.std.specs.List.{flat_map, AllByRecursion}
use Rattle.jpa_behaviour.specs.Behaviour.{World}
use Rattle.jpa_stored.specs.objects.Sets.{StoredSet}
use Rattle.jpa_rows.specs.declared.rows.schema.TableRule.{TableRule}
use Rattle.jpa_rows.specs.rows.Cells.{Cell, StandFor}
use Rattle.jpa_rows.specs.rows.Rows.{RowId, Row, table_of}
use Rattle.jpa_rows.specs.rows.Tables.{schema_of}
use Rattle.jpa_cells.specs.declared.meaning.CellRow.{CellRow}
use Rattle.jpa_cells.specs.meaning.Tables.{Tables}
use Rattle.jpa_cells.specs.rowspace.Reading.{SpellsEntry}
use Rattle.jpa_opening.specs.reader.Sound.{IsSoundRow}

-- the cells of the tables that a schema names, as the definitions count them
abbrev pub cells_of_row : ℕ → CellRow → List Cell
cells_of_row table r = map (λ c. record { table = table; row = r.row; column = c.column; bytes = c.value }) r.cells

-- the cells of the unit's tables
abbrev pub cells_in : World → Tables → List Cell
cells_in world tables =
    flat_map (λ rule. flat_map (cells_of_row rule.table) (tables (pos rule.table))) (schema_of world.model).tables

-- the row of cells is one that an object, a pair, a next number or the revision may have
abbrev pub IsSoundCells : World → TableRule → CellRow → Type 0
IsSoundCells world rule r = (e : RowId × Row) × SpellsEntry rule r e × IsSoundRow world e.0 e.1

-- all rows of this table are such
abbrev pub IsSoundTable : World → Tables → TableRule → Type 0
IsSoundTable world tables rule = AllByRecursion (IsSoundCells world rule) (tables (pos rule.table))

-- a row that is not, and the rows before it and the tables below its own are
pub record IsLowestDamage (world : World) (tables : Tables) (table : ℕ) (bytes : List ℕ) : Type 0 where
  pub rule : TableRule
  pub before : List CellRow
  pub damaged : CellRow
  pub after : List CellRow
  pub own : table_of (schema_of world.model) table ≡ Some rule
  pub split : tables (pos table) ≡ before ++ damaged ∷ after
  pub row : damaged.row ≡ bytes
  pub not_sound : IsSoundCells world rule damaged → ⊥
  pub first : AllByRecursion (IsSoundCells world rule) before
  pub lowest : (t : ℕ) (other : TableRule) → nat_lt t table ≡ true → table_of (schema_of world.model) t ≡ Some other →
      IsSoundTable world tables other

-- each row of the unit's tables is sound by itself
abbrev pub AreSoundTables : World → Tables → Type 0
AreSoundTables world tables =
    (t : ℕ) (rule : TableRule) → table_of (schema_of world.model) t ≡ Some rule → IsSoundTable world tables rule

-- the cells of the tables stand for no set and no next numbers
abbrev pub StandForNone : World → Tables → Type 0
StandForNone world tables =
    (set : StoredSet) (numbers : List ℕ) → StandFor world (cells_in world tables) set numbers → ⊥

-- tables whose cells stand for no set, and the place that is told of them: the lowest damaged row,
-- or the empty one of table 0 where each row is sound by itself
pub record AreDamagedAt (world : World) (tables : Tables) (table : ℕ) (bytes : List ℕ) : Type 0 where
  pub none : StandForNone world tables
  pub place : IsLowestDamage world tables table bytes
      ⊎ ((table ≡ 0) × (bytes ≡ []) × AreSoundTables world tables)
