-- The rows of next numbers: one of table 0 for each that is not 1, where keys are generated, named by
-- the hierarchy's table; and that of the revision.
use Rattle.std.specs.Prelude.{ℕ, pos, ◌==◌, List, [], ◌∷◌, if◌then◌else◌}
use Rattle.std.specs.List.{flat_map, zip}
use Rattle.std.specs.FinMap.{put}
use Rattle.jpa_value.specs.declared.value.Value.{Value}
use Rattle.jpa_value.specs.Value.{identity_cmp}
use Rattle.jpa_model.specs.declared.unit.Entity.{Entity}
use Rattle.jpa_model.specs.declared.unit.Origin.{Origin}
use Rattle.jpa_model.specs.declared.unit.PersistenceUnit.{PersistenceUnit}
use Rattle.jpa_rows.specs.declared.rows.row.Content.{Content}
use Rattle.jpa_rows.specs.rows.Rows.{RowId, Row, Rows}

-- rows with others put over them
abbrev pub with_rows : Rows → Rows → Rows
with_rows [] rows = rows
with_rows (e ∷ es) rows = put identity_cmp e.0 e.1 (with_rows es rows)

-- a row that has a number in column 0
abbrev pub number_in_first : ℕ → Row
number_in_first k = record { column = 0; content = Content.Value (Value.Int (pos k)) } ∷ []

-- the id of the row of a table's next number
abbrev pub number_id : ℕ → RowId
number_id table = record { table = 0; key = Value.Int (pos table) ∷ [] }

-- the row of a next number
abbrev pub number_row : ℕ → Row
number_row k = number_in_first k

-- the row of a table's next number; 1 has none
abbrev pub number_entry : ℕ → ℕ → Rows
number_entry table k = if k == 1 then [] else (number_id table, number_row k) ∷ []

-- that of a root's next number, where keys are generated
abbrev pub next_entry : Origin → ℕ → Rows
next_entry (Origin.Root root) k = if root.generated then number_entry root.table k else []
next_entry (Origin.Extends parent) k = []

-- those of classes, each with its next number
abbrev pub next_entries : List (Entity × ℕ) → Rows
next_entries = flat_map (λ p. next_entry (p.0).origin p.1)

-- the row of the revision, which stands where the next number of table 0 would
abbrev pub base_of : PersistenceUnit → Rows
base_of m = number_entry 0 m.revision

-- the rows of the next numbers of all classes, and that of the revision
abbrev pub number_rows : PersistenceUnit → List ℕ → Rows
number_rows m numbers = with_rows (next_entries (zip m.entities numbers)) (base_of m)
