-- Numbers that rows and their ids say, and whose hierarchies have next numbers.
use Rattle.std.specs.Prelude.{ℕ, pos, negsuc, Bool, false, ◌==◌, ◌&&◌, List, [], ◌∷◌, find, Option, Some, None}
use Rattle.std.specs.Prelude.{if◌then◌else◌}
use Rattle.std.specs.List.{list_any}
use Rattle.jpa_value.specs.declared.value.Value.{Value}
use Rattle.jpa_model.specs.declared.unit.Entity.{Entity}
use Rattle.jpa_model.specs.declared.unit.Origin.{Origin}
use Rattle.jpa_model.specs.declared.unit.PersistenceUnit.{PersistenceUnit}
use Rattle.jpa_rows.specs.declared.rows.row.Content.{Content}
use Rattle.jpa_rows.specs.declared.rows.row.Field.{Field}
use Rattle.jpa_rows.specs.rows.Rows.{RowId, Row}

-- an integer that is not below 0
abbrev pub natural : Value → Option ℕ
natural Value.Null = None
natural (Value.Int (pos n)) = Some n
natural (Value.Int (negsuc n)) = None
natural (Value.Text bytes) = None
natural (Value.Bytes bytes) = None

-- a natural number that is the value of a content, if it is one
abbrev pub natural_in : Content → Option ℕ
natural_in (Content.Value v) = natural v
natural_in (Content.Reference key) = None

-- what a row says that has column 0 alone
abbrev pub only_number : Row → Option ℕ
only_number [] = None
only_number (f ∷ []) = if f.column == 0 then natural_in f.content else None
only_number (f ∷ g ∷ row) = None

-- a natural number that is a key's only part, if it is one
abbrev pub only_part : List Value → Option ℕ
only_part [] = None
only_part (v ∷ []) = natural v
only_part (v ∷ w ∷ key) = None

-- the column 0 of a row
abbrev pub zero_column : Row → Option Field
zero_column = find (λ f. f.column == 0)

-- the table whose next number stands under the id
abbrev pub table_named : RowId → Option ℕ
table_named id = if id.table == 0 then only_part id.key else None

-- a root with this table and with generated keys
abbrev pub generates : ℕ → Origin → Bool
generates table (Origin.Root root) = (root.table == table) && root.generated
generates table (Origin.Extends parent) = false

-- whether a root with this table has generated keys
abbrev pub has_generator : PersistenceUnit → ℕ → Bool
has_generator m table = list_any (λ (e : Entity). generates table e.origin) m.entities
