-- What becomes of the cells of a store of revision 1 that a unit of revision 2 opens. In each main
-- row the cells of dropped columns go. The cell of a column that an attribute had moves to the one
-- that it has. The new attributes of the row's class chain get their defaults. Then the revision's
-- row is added. It is said of cells, since a dropped column may hold anything.
use Rattle.std.specs.Prelude.{ℕ, ℤ, pos, Bool, true, false, not, ◌&&◌, ◌==◌, List, [], ◌∷◌, ◌++◌, map, find, Option}
use Rattle.std.specs.Prelude.{Some, None, if◌then◌else◌, bytes_eq}
use Rattle.std.specs.List.{flat_map, list_any, list_all}
use Rattle.std.specs.Ordering.{int_eq}
use Rattle.jpa_value.specs.declared.value.Value.{Value}
use Rattle.jpa_rows.specs.keys.Keys.{key_bytes, int_bytes}
use Rattle.jpa_model.specs.declared.unit.Attribute.{Attribute}
use Rattle.jpa_model.specs.declared.unit.Entity.{Entity}
use Rattle.jpa_model.specs.declared.unit.Origin.{Origin}
use Rattle.jpa_model.specs.declared.unit.PersistenceUnit.{PersistenceUnit}
use Rattle.jpa_model.specs.Chains.{entity_at}
use Rattle.jpa_behaviour.specs.Behaviour.{World}
use Rattle.jpa_description.specs.declared.history.history.Change.{Change}
use Rattle.jpa_description.specs.declared.history.history.History.{History}
use Rattle.jpa_description.specs.history.History.{changes_of, changes_along, dropped_by}
use Rattle.jpa_cells.specs.declared.meaning.Cell.{Cell}
use Rattle.jpa_cells.specs.declared.meaning.CellRow.{CellRow}
use Rattle.jpa_cells.specs.declared.meaning.CellChange.{CellChange}
use Rattle.jpa_cells.specs.meaning.Tables.{Tables, row_of, with_row, placed}
use Rattle.jpa_rows.specs.rows.Cells.{value_bytes, column_value, is_given, tables_of}
use Rattle.jpa_rows.specs.rows.Tables.{classes, classes_below}

-- a cell of a column
abbrev pub cell : ℕ → List ℕ → Cell
cell column bytes = record { column = pos column; value = bytes }

-- a cell of a column, where there are bytes
abbrev pub cell_if : ℕ → Option (List ℕ) → List Cell
cell_if column None = []
cell_if column (Some bytes) = cell column bytes ∷ []

-- ---- the revision's row: row [Int(0)] of table 0, which says 2

-- the bytes of the key [Int(0)]
abbrev pub revision_key : List ℕ
revision_key = key_bytes (Value.Int (pos 0) ∷ [])

-- the row of revision 2
abbrev pub revision_row : CellRow
revision_row = row_of revision_key (cell 0 (1 ∷ int_bytes (pos 2)) ∷ [])

-- a row [Int(0)], whatever it says
abbrev pub is_revision_row : CellRow → Bool
is_revision_row r = bytes_eq r.row revision_key

-- whether one of the rows is a row [Int(0)]
abbrev pub has_revision_row : List CellRow → Bool
has_revision_row numbers = list_any is_revision_row numbers

-- By the rows of its table 0, a store is of revision 1 and opened by a unit of revision 2. A row
-- [Int(0)] is judged, not replaced.
abbrev pub is_due : PersistenceUnit → List CellRow → Bool
is_due m numbers = (m.revision == 2) && not (has_revision_row numbers)

-- ---- one attribute, beside what it was

-- revision 1 has nothing in the attribute's column
abbrev pub is_new : Change → Bool
is_new Change.Kept = false
is_new (Change.New default) = true
is_new (Change.Moved was) = true

-- whether an attribute was in this column
abbrev pub was_in : ℤ → Change → Bool
was_in column Change.Kept = false
was_in column (Change.New default) = false
was_in column (Change.Moved was) = int_eq (pos was) column

-- the default of a new attribute, if it has one
abbrev pub default_in : Change → Option Value
default_in Change.Kept = None
default_in (Change.New default) = default
default_in (Change.Moved was) = None

-- a default goes through the converter
abbrev pub default_bytes : World → Attribute → Option Value → Option (List ℕ)
default_bytes world a None = None
default_bytes world a (Some d) = value_bytes (column_value world a.converter d)

-- a default passes its attribute's converter, where there is one
abbrev pub default_passes : World → Attribute → Option Value → Bool
default_passes world a None = true
default_passes world a (Some d) = is_given (column_value world a.converter d)

-- no converter throws for a default; else the opening is refused, whatever the store holds
abbrev pub defaults_pass : World → History → Bool
defaults_pass world h =
    let m = world.model in
    list_all (λ class. list_all (λ p. default_passes world p.0 (default_in p.1)) (changes_of m h class)) (classes m)

-- ---- one row of a root's table

-- A row that revision 1 cannot have, and one that keeps no cell, stay under their bytes without a
-- readable cell: so they are damaged.
abbrev pub readable : List Cell → List Cell
readable [] = cell 0 [] ∷ []
readable (c ∷ cells) = c ∷ cells

-- the attributes of all classes of the hierarchy, with what each is beside revision 1
abbrev pub changes_below : PersistenceUnit → History → ℕ → List (Attribute × Change)
changes_below m h root = flat_map (changes_of m h) (classes_below m root)

-- a cell stands in a column that revision 1 does not have
abbrev pub is_taken : List (Attribute × Change) → List Cell → Bool
is_taken changes cells = list_any (λ c. list_any (λ p. is_new p.1 && int_eq (pos (p.0).column) c.column) changes) cells

-- the attribute's column, for the one that it had
abbrev pub column_after : List (Attribute × Change) → ℤ → ℤ
column_after [] column = column
column_after (p ∷ changes) column = if was_in column p.1 then pos (p.0).column else column_after changes column

-- what becomes of a cell: it goes, moves or stays
abbrev pub cell_after : List (Attribute × Change) → List ℕ → Cell → List Cell
cell_after changes dropped c =
    if list_any (λ n. int_eq (pos n) c.column) dropped then []
    else record { column = column_after changes c.column; value = c.value } ∷ []

-- whether a row's cells have the discriminator of this entity
abbrev pub is_of : Entity → List Cell → Bool
is_of e cells = list_any (λ c. int_eq c.column (pos 0) && bytes_eq c.value (2 ∷ e.discriminator)) cells

-- the cells of the defaults along the chain of a class
abbrev pub class_defaults : World → History → ℕ → List Cell
class_defaults world h class =
    flat_map (λ p. cell_if (p.0).column (default_bytes world p.0 (default_in p.1))) (changes_along world.model h class)

-- the defaults of the chain of the class that column 0 names
abbrev pub default_cells : World → History → ℕ → List Cell → List Cell
default_cells world h root cells =
    let m = world.model in
    flat_map (λ class. if is_of (entity_at m class) cells then class_defaults world h class else [])
    (classes_below m root)

-- what becomes of a row's cells
abbrev pub cells_after : World → History → ℕ → List Cell → List Cell
cells_after world h root cells =
    let changes = changes_below world.model h root in
    readable (if is_taken changes cells then []
    else placed (flat_map (cell_after changes (dropped_by h root)) cells ++ default_cells world h root cells))

-- what becomes of a row
abbrev pub row_after : World → History → ℕ → CellRow → CellRow
row_after world h root r = row_of r.row (cells_after world h root r.cells)

-- cells as they were
abbrev pub same_cells : List Cell → List Cell → Bool
same_cells [] [] = true
same_cells (c ∷ cells) (d ∷ others) = int_eq c.column d.column && bytes_eq c.value d.value && same_cells cells others
same_cells cells others = false

-- the change of a row, where its cells differ
abbrev pub change_if : World → History → ℤ → ℕ → CellRow → List CellChange
change_if world h table root r =
    let cells = cells_after world h root r.cells in
    if same_cells r.cells cells then [] else record { table = table; row = r.row; cells = cells } ∷ []

-- ---- one table

-- whether an origin is a root with this table
abbrev pub has_table : ℤ → Origin → Bool
has_table table (Origin.Root root) = int_eq (pos root.table) table
has_table table (Origin.Extends parent) = false

-- the root with this table, if there is one
abbrev pub root_with : PersistenceUnit → ℤ → Option ℕ
root_with m table = find (λ class. has_table table (entity_at m class).origin) (classes m)

-- the rows of a join table, and those of other units, stay
abbrev pub rows_by : World → History → Option ℕ → List CellRow → List CellRow
rows_by world h None rows = rows
rows_by world h (Some root) rows = map (row_after world h root) rows

-- what becomes of the rows of a table
abbrev pub rows_migrated : World → History → ℤ → List CellRow → List CellRow
rows_migrated world h table rows =
    if int_eq table (pos 0) then with_row revision_row rows else rows_by world h (root_with world.model table) rows

-- what is written of a table: each row that differs, and the revision's row
abbrev pub changes_by : World → History → ℤ → Option ℕ → List CellRow → List CellChange
changes_by world h table None rows = []
changes_by world h table (Some root) rows = flat_map (change_if world h table root) rows

-- the change that adds the revision's row
abbrev pub revision_change : CellChange
revision_change = record { table = pos 0; row = revision_key; cells = revision_row.cells }

-- what is written of a table
abbrev pub changes_made : World → History → ℤ → List CellRow → List CellChange
changes_made world h table rows =
    if int_eq table (pos 0) then revision_change ∷ [] else changes_by world h table (root_with world.model table) rows

-- ---- all tables

-- THE TABLES THAT ARE JUDGED, AND THAT AN OPENING LEAVES: as they were found, or migrated
abbrev pub opened_tables : World → History → Tables → Tables
opened_tables world h tables table =
    if is_due world.model (tables (pos 0)) then rows_migrated world h table (tables table) else tables table

-- what is written of all tables of the unit, as one commit
abbrev pub changes_due : World → History → Tables → List CellChange
changes_due world h tables =
    if is_due world.model (tables (pos 0)) then flat_map (λ t. changes_made world h (pos t) (tables (pos t)))
    (tables_of world.model) else []
