-- The lines of rows: each row as JSON, with entities by their names and keys.
use Rattle.std.specs.Prelude.{◌==◌, ℕ, Bool, false, List, [], ◌∷◌, ◌++◌, map, find, codes, Option, Some, None}
use Rattle.serde_json.specs.Data.{Data, string, array, object, no_items, member, no_members}
use Rattle.serde_json.specs.View.{items_of}
use Rattle.serde_json.specs.Written.{compact_text}
use Rattle.jpa_value.specs.declared.value.Identity.{Identity}
use Rattle.jpa_model.specs.declared.unit.Entity.{Entity}
use Rattle.jpa_model.specs.declared.unit.Origin.{Origin}
use Rattle.jpa_model.specs.declared.unit.PersistenceUnit.{PersistenceUnit}
use Rattle.jpa_lines.specs.lines.ReplyText.{value_data}
use Rattle.jpql_meaning.specs.declared.eval.datum.Datum.{Datum}

-- whether an origin begins a hierarchy of this table (chapter 2.11)
abbrev pub is_root_of : ℕ → Origin → Bool
is_root_of table (Origin.Root root) = root.table == table
is_root_of table (Origin.Extends parent) = false

-- whether an entity begins the hierarchy of this table (chapter 2.11)
abbrev pub has_table : ℕ → Entity → Bool
has_table table e = is_root_of table e.origin

-- the name of an entity, and of none the empty one
abbrev pub name_of : Option Entity → List ℕ
name_of (Some e) = e.name
name_of None = []

-- the name of the entity that begins the hierarchy of a table
abbrev pub entity_name : PersistenceUnit → ℕ → List ℕ
entity_name m table = name_of (find (has_table table) m.entities)

-- an entity by its name and key: {"entity":"Person","key":[1]}
abbrev pub identity_data : PersistenceUnit → Identity → Data
identity_data m id = object (member (codes "entity") (string (entity_name m id.table))
    (member (codes "key") (array (items_of (map value_data id.key))) no_members))

-- an item of a row: a value as replies have it, or an entity
abbrev pub datum_data : PersistenceUnit → Datum → Data
datum_data m (Datum.Plain v) = value_data v
datum_data m (Datum.Entity id) = identity_data m id

-- a row of one item is the item, any other a list
abbrev pub row_data : PersistenceUnit → List Datum → Data
row_data m [] = array no_items
row_data m (x ∷ []) = datum_data m x
row_data m (x ∷ y ∷ xs) = array (items_of (map (datum_data m) (x ∷ y ∷ xs)))

-- a row as compact JSON, and a line feed
abbrev pub row_text : PersistenceUnit → List Datum → List ℕ
row_text m row = compact_text (row_data m row) ++ 10 ∷ []
