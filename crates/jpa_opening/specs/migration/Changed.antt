-- What attributes are beside revision 1, by their places.
use Rattle.std.specs.Prelude.{ℕ, Bool, List, slice_get, Option, Some, None, unwrap_or}
use Rattle.std.specs.List.{list_all}
use Rattle.jpa_model.specs.declared.unit.Attribute.{Attribute}
use Rattle.jpa_behaviour.specs.Behaviour.{World}
use Rattle.jpa_cells.specs.declared.meaning.Cell.{Cell}
use Rattle.jpa_description.specs.declared.history.history.Change.{Change}
use Rattle.jpa_description.specs.declared.history.history.History.{History}
use Rattle.jpa_description.specs.history.History.{class_at, changes_of}
use Rattle.jpa_opening.specs.migration.Migration.{default_passes, default_in, default_bytes, cell_if}

-- what is said of the attribute at a place of a class, if anything
abbrev pub change_if : History → ℕ → ℕ → Option Change
change_if h class attribute = slice_get (class_at h class).changes attribute

-- what an attribute of a class is beside revision 1
abbrev pub change_at : History → ℕ → ℕ → Change
change_at h class attribute = unwrap_or (change_if h class attribute) Change.Kept

-- the column that an attribute had, where it has moved
abbrev pub column_before : Change → Option ℕ
column_before Change.Kept = None
column_before (Change.New default) = None
column_before (Change.Moved was) = Some was

-- the defaults that a class itself declares pass their converters
abbrev pub class_passes : World → History → ℕ → Bool
class_passes world h class = list_all (λ p. default_passes world p.0 (default_in p.1)) (changes_of world.model h class)

-- the cell of an attribute's default, where there is one
abbrev pub default_cell : World → Attribute × Change → List Cell
default_cell world p = cell_if (p.0).column (default_bytes world p.0 (default_in p.1))
