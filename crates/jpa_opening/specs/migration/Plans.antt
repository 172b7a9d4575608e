-- What becomes of the rows of one root's table, as it is read off the unit and its history once,
-- and what that makes of cells.
use Rattle.std.specs.Prelude.{◌≡◌, ℕ, ℤ, pos, Bool, true, false, not, ◌&&◌, ◌||◌, List, [], ◌∷◌, ◌++◌, if◌then◌else◌}
use Rattle.std.specs.Prelude.{bytes_eq}
use Rattle.std.specs.List.{flat_map, list_any}
use Rattle.std.specs.Ordering.{int_eq}
use Rattle.jpa_model.specs.declared.unit.Attribute.{Attribute}
use Rattle.jpa_model.specs.Chains.{entity_at}
use Rattle.jpa_behaviour.specs.Behaviour.{World}
use Rattle.jpa_description.specs.declared.history.history.Change.{Change}
use Rattle.jpa_description.specs.declared.history.history.History.{History}
use Rattle.jpa_description.specs.history.History.{changes_of, dropped_by}
use Rattle.jpa_cells.specs.declared.meaning.Cell.{Cell}
use Rattle.jpa_cells.specs.declared.meaning.CellRow.{CellRow}
use Rattle.jpa_cells.specs.declared.meaning.CellChange.{CellChange}
use Rattle.jpa_cells.specs.meaning.Tables.{row_of, placed}
use Rattle.jpa_rows.specs.rows.Tables.{classes_below}
use Rattle.jpa_opening.specs.declared.migration.plan.Move.{Move}
use Rattle.jpa_opening.specs.declared.migration.plan.ClassDefaults.{ClassDefaults}
use Rattle.jpa_opening.specs.declared.migration.plan.Plan.{Plan}
use Rattle.jpa_opening.specs.migration.Migration.{is_new, readable, class_defaults, same_cells}

-- whether a list has no element
abbrev pub is_nil : {A : Type 0} → List A → Bool
is_nil [] = true
is_nil (x ∷ xs) = false

-- ---- the plan of a root

-- the column of an attribute that is new
abbrev pub column_if_new : Attribute × Change → List ℕ
column_if_new p = if is_new p.1 then (p.0).column ∷ [] else []

-- the move of a column, where its attribute has moved
abbrev pub moved_by : ℕ → Change → List Move
moved_by column Change.Kept = []
moved_by column (Change.New default) = []
moved_by column (Change.Moved was) = record { was = was; column = pos column } ∷ []

-- the move of an attribute's column, if it has moved
abbrev pub move_of : Attribute × Change → List Move
move_of p = moved_by (p.0).column p.1

-- cells under a discriminator, where there are any
abbrev pub named : List ℕ → List Cell → List ClassDefaults
named discriminator [] = []
named discriminator (c ∷ cells) = record { discriminator = discriminator; cells = c ∷ cells } ∷ []

-- what a class itself adds
abbrev pub taken_by : World → History → ℕ → List ℕ
taken_by world h class = flat_map column_if_new (changes_of world.model h class)

-- the moves of the columns that a class declares
abbrev pub moves_by : World → History → ℕ → List Move
moves_by world h class = flat_map move_of (changes_of world.model h class)

-- the defaults along a class's chain, under its discriminator
abbrev pub defaults_of : World → History → ℕ → List ClassDefaults
defaults_of world h class = named (2 ∷ (entity_at world.model class).discriminator) (class_defaults world h class)

-- the plan with what a class adds
pub record Adds (world : World) (h : History) (class : ℕ) (old new : Plan) : Type 0 where
  pub taken : new.taken ≡ old.taken ++ taken_by world h class
  pub dropped : new.dropped ≡ old.dropped
  pub moves : new.moves ≡ old.moves ++ moves_by world h class
  pub defaults : new.defaults ≡ old.defaults ++ defaults_of world h class

-- the plan of a root with these classes
abbrev pub plan_of_classes : World → History → ℕ → List ℕ → Plan
plan_of_classes world h root classes = record {
  taken = flat_map (taken_by world h) classes;
  dropped = dropped_by h root;
  moves = flat_map (moves_by world h) classes;
  defaults = flat_map (defaults_of world h) classes;
}

-- the plan of a root
abbrev pub plan_of : World → History → ℕ → Plan
plan_of world h root = plan_of_classes world h root (classes_below world.model root)

-- ---- what a plan makes of cells

-- whether a column has this number
abbrev pub is_number : ℤ → ℕ → Bool
is_number column n = int_eq (pos n) column

-- whether a column has one of these numbers
abbrev pub has_number : List ℕ → ℤ → Bool
has_number numbers column = list_any (is_number column) numbers

-- a cell stands in a column that is new
abbrev pub is_taken : Plan → List Cell → Bool
is_taken plan cells = list_any (λ c. has_number plan.taken c.column) cells

-- the column that a move leads to, or the same
abbrev pub column_by : List Move → ℤ → ℤ
column_by [] column = column
column_by (move ∷ moves) column = if is_number column move.was then move.column else column_by moves column

-- what becomes of a cell by a plan: it goes, moves or stays
abbrev pub cell_by : Plan → Cell → List Cell
cell_by plan c = if has_number plan.dropped c.column then []
    else record { column = column_by plan.moves c.column; value = c.value } ∷ []

-- whether a cell is this discriminator
abbrev pub is_discriminator : List ℕ → Cell → Bool
is_discriminator discriminator c = int_eq c.column (pos 0) && bytes_eq c.value discriminator

-- whether a row's cells have this discriminator
abbrev pub is_of : List ℕ → List Cell → Bool
is_of discriminator cells = list_any (is_discriminator discriminator) cells

-- the defaults of a class, where the cells are of it
abbrev pub defaults_if : List Cell → ClassDefaults → List Cell
defaults_if cells class = if is_of class.discriminator cells then class.cells else []

-- the defaults that a plan gives to cells
abbrev pub defaults_by : Plan → List Cell → List Cell
defaults_by plan cells = flat_map (defaults_if cells) plan.defaults

-- those that stay, in their columns, and the defaults
abbrev pub loose_by : Plan → List Cell → List Cell
loose_by plan cells = flat_map (cell_by plan) cells ++ defaults_by plan cells

-- what becomes of a row's cells by a plan
abbrev pub cells_by : Plan → List Cell → List Cell
cells_by plan cells = readable (if is_taken plan cells then [] else placed (loose_by plan cells))

-- what becomes of a row by a plan
abbrev pub row_by : Plan → CellRow → CellRow
row_by plan r = row_of r.row (cells_by plan r.cells)

-- ---- whether they differ

-- the cell goes, or moves
abbrev pub touches : Plan → Cell → Bool
touches plan c = has_number plan.dropped c.column || not (int_eq (column_by plan.moves c.column) c.column)

-- the one cell that a row without a readable cell has
abbrev pub is_bare : List Cell → Bool
is_bare cells = same_cells cells (readable [])

-- whether a plan changes a row's cells
abbrev pub differs : Plan → List Cell → Bool
differs plan cells =
    if is_taken plan cells || is_nil (loose_by plan cells) then not (is_bare cells)
    else list_any (touches plan) cells || not (is_nil (defaults_by plan cells))

-- the change of a row by a plan, where its cells differ
abbrev pub change_by : Plan → ℤ → CellRow → List CellChange
change_by plan table r =
    if differs plan r.cells then record { table = table; row = r.row; cells = cells_by plan r.cells } ∷ [] else []

-- each row stays
abbrev pub is_idle : Plan → Bool
is_idle plan = is_nil plan.taken && is_nil plan.dropped && is_nil plan.moves && is_nil plan.defaults
