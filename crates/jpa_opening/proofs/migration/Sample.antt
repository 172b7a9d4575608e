-- A unit of persons whose name moved and whose hits are new, of orders without their amount; and a hierarchy of three classes.
use Rattle.std.specs.Prelude.{codes, ℕ, pos, true, false, List, [], ◌∷◌, Some, None, if◌then◌else◌}
use Rattle.std.specs.Ordering.{int_eq}
use Rattle.jpa_value.specs.declared.value.Value.{Value}
use Rattle.jpa_value.specs.declared.value.Kind.{Kind}
use Rattle.jpa_rows.specs.keys.Keys.{int_bytes}
use Rattle.jpa_model.specs.declared.unit.Attribute.{Attribute}
use Rattle.jpa_model.specs.declared.unit.Entity.{Entity}
use Rattle.jpa_model.specs.declared.unit.Origin.{Origin}
use Rattle.jpa_model.specs.declared.unit.Side.{Side}
use Rattle.jpa_model.specs.declared.unit.PersistenceUnit.{PersistenceUnit}
use Rattle.jpa_model.specs.Chains.{no_cascade}
use Rattle.jpa_behaviour.specs.Behaviour.{World, without_functions}
use Rattle.jpa_behaviour.specs.Samples.{flip}
use Rattle.jpa_description.specs.declared.history.history.Change.{Change}
use Rattle.jpa_description.specs.declared.history.history.History.{History}
use Rattle.jpa_cells.specs.declared.meaning.Cell.{Cell}
use Rattle.jpa_cells.specs.declared.meaning.CellRow.{CellRow}
use Rattle.jpa_cells.specs.meaning.Tables.{Tables, row_of}
use Rattle.jpa_opening.specs.migration.Migration.{cell}

abbrev pub attribute : List ℕ → Kind → ℕ → Attribute
attribute name kind column = record { name = name; kind = kind; column = column; required = false; converter = None }

abbrev pub person : Entity
person = record {
  name = codes "Person";
  origin = Origin.Root (record { table = 1; key = record { name = codes "id"; kind = Kind.Int } ∷ []; embedded = None; generated = true; version = Some (record { name = codes "version"; column = 1 }) });
  discriminator = codes "Person";
  attributes = attribute (codes "name") Kind.Text 4 ∷ attribute (codes "hits") Kind.Int 3 ∷ [];
  relations = record { name = codes "orders"; side = Side.OneToMany 0; target = 1; cascade = no_cascade; orphan_removal = true } ∷ [];
  listeners = [];
  callbacks = [];
  exclude_default = false;
  exclude_super = false;
}

abbrev pub order : Entity
order = record {
  name = codes "Order";
  origin = Origin.Root (record { table = 2; key = record { name = codes "number"; kind = Kind.Int } ∷ []; embedded = None; generated = false; version = None });
  discriminator = codes "Order";
  attributes = [];
  relations = record { name = codes "person"; side = Side.ManyToOne (record { column = 2; required = false }); target = 0; cascade = no_cascade; orphan_removal = false } ∷ [];
  listeners = [];
  callbacks = [];
  exclude_default = false;
  exclude_super = false;
}

abbrev unit_as : ℕ → PersistenceUnit
unit_as revision = record { revision = revision; listeners = []; entities = person ∷ order ∷ [] }

abbrev pub persons : World
persons = without_functions (unit_as 2)

-- the same unit, of revision 1
abbrev pub first_persons : World
first_persons = without_functions (unit_as 1)

abbrev pub history : History
history = record {
  classes = record { dropped = []; changes = Change.Moved 2 ∷ Change.New (Some (Value.Int (pos 0))) ∷ [] } ∷ record { dropped = 1 ∷ []; changes = [] } ∷ [];
}

-- ---- a hierarchy: dogs have new barks, through a converter, and cats have lives in another column

abbrev animal_class : List ℕ → Origin → List Attribute → Entity
animal_class name origin attributes =
    record { name = name; origin = origin; discriminator = name; attributes = attributes; relations = []; listeners = []; callbacks = []; exclude_default = false; exclude_super = false }

abbrev animals_unit : PersistenceUnit
animals_unit = record {
  revision = 2;
  listeners = [];
  entities =
      animal_class (codes "Animal") (Origin.Root (record { table = 1; key = record { name = codes "id"; kind = Kind.Int } ∷ []; embedded = None; generated = false; version = None })) (attribute (codes "weight") Kind.Int 9 ∷ [])
      ∷ animal_class (codes "Dog") (Origin.Extends 0) (record (attribute (codes "barks") Kind.Int 2) { converter = Some (codes "flip") } ∷ [])
      ∷ animal_class (codes "Cat") (Origin.Extends 0) (attribute (codes "lives") Kind.Int 4 ∷ []) ∷ [];
}

abbrev pub animals : World
animals = record (without_functions animals_unit) { column = λ name. flip }

-- a weight of 5 for all, 7 barks for dogs
abbrev pub animal_history : History
animal_history = record {
  classes =
      record { dropped = 6 ∷ []; changes = Change.New (Some (Value.Int (pos 5))) ∷ [] }
      ∷ record { dropped = []; changes = Change.New (Some (Value.Int (pos 7))) ∷ [] }
      ∷ record { dropped = []; changes = Change.Moved 3 ∷ [] } ∷ [];
}

-- ---- cells: an integer, a text, a row under a number

abbrev pub int_cell : ℕ → ℕ → Cell
int_cell column n = cell column (1 ∷ int_bytes (pos n))

abbrev pub text_cell : ℕ → List ℕ → Cell
text_cell column text = cell column (2 ∷ text)

abbrev pub row : ℕ → List Cell → CellRow
row n cells = row_of (1 ∷ 128 ∷ 0 ∷ 0 ∷ 0 ∷ 0 ∷ 0 ∷ 0 ∷ n ∷ []) cells

-- tables 0, 1 and 2
abbrev pub store : List CellRow → List CellRow → List CellRow → Tables
store numbers people orders table = if int_eq table (pos 0) then numbers else if int_eq table (pos 1) then people else if int_eq table (pos 2) then orders else []
