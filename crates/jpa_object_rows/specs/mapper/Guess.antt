-- The object without pairs that a main row may say: a guess, which counts only where it can be
-- stored under the identity and its own main row is the given one. Each value, version and link of
-- the guess is what stands in its column.
use Rattle.std.specs.Prelude.{ℕ, ℤ, Bool, ◌==◌, ◌&&◌, not, List, [], ◌∷◌, map, find, Option, Some, None}
use Rattle.std.specs.List.{list_all}
use Rattle.jpa_value.specs.declared.value.Value.{Value}
use Rattle.jpa_value.specs.declared.value.Identity.{Identity}
use Rattle.jpa_value.specs.Value.{fits, is_null, is_representable}
use Rattle.jpa_model.specs.declared.unit.Attribute.{Attribute}
use Rattle.jpa_model.specs.declared.unit.Part.{Part}
use Rattle.jpa_model.specs.declared.unit.PersistenceUnit.{PersistenceUnit}
use Rattle.jpa_model.specs.declared.unit.Relation.{Relation}
use Rattle.jpa_model.specs.declared.unit.Root.{Root}
use Rattle.jpa_model.specs.declared.unit.Side.{Side}
use Rattle.jpa_model.specs.declared.unit.VersionColumn.{VersionColumn}
use Rattle.jpa_model.specs.Chains.{attributes_of, relations_of, root_of, entity_at, same_name}
use Rattle.jpa_behaviour.specs.Behaviour.{World}
use Rattle.jpa_stored.specs.declared.objects.stored.Stored.{Stored}
use Rattle.jpa_stored.specs.objects.Sets.{each_fits, version_there}
use Rattle.jpa_rows.specs.declared.rows.row.Content.{Content}
use Rattle.jpa_rows.specs.rows.Cells.{cell_value, version_representable}
use Rattle.jpa_rows.specs.rows.Rows.{Row}
use Rattle.jpa_rows.specs.rows.Tables.{classes}
use Rattle.jpa_object_rows.specs.meaning.View.{number_of}
use Rattle.jpa_object_rows.specs.meaning.Sets.{content_at, identity_of}

-- ---- what a column says: nothing is null, or a link that leads nowhere

-- the value in a column; null for nothing and for a reference
abbrev pub value_in : Option Content → Value
value_in None = Value.Null
value_in (Some (Content.Value v)) = v
value_in (Some (Content.Reference key)) = Value.Null

-- an object of the hierarchy with this table
abbrev pub link_in : ℕ → Option Content → List Identity
link_in table None = []
link_in table (Some (Content.Value v)) = []
link_in table (Some (Content.Reference key)) = identity_of table key ∷ []

-- ---- the class

-- the text that a value is, if it is one
abbrev pub text_of : Value → Option (List ℕ)
text_of Value.Null = None
text_of (Value.Int n) = None
text_of (Value.Text bytes) = Some bytes
text_of (Value.Bytes bytes) = None

-- of the hierarchy with this table, by this discriminator
abbrev pub is_class_by : PersistenceUnit → ℕ → List ℕ → ℕ → Bool
is_class_by m table text class = ((root_of m class).table == table) && same_name (entity_at m class).discriminator text

-- the class with a discriminator, if there is one
abbrev pub class_by : PersistenceUnit → ℕ → Option (List ℕ) → Option ℕ
class_by m table None = None
class_by m table (Some text) = find (is_class_by m table text) (classes m)

-- the class that a row's column 0 names, if there is one (chapter 2.12)
abbrev pub class_in : PersistenceUnit → ℕ → Row → Option ℕ
class_in m table row = class_by m table (text_of (value_in (content_at 0 row)))

-- ---- version, attributes and links

-- the version in a row, where the hierarchy has one
abbrev pub version_in : Option VersionColumn → Row → Option ℤ
version_in None row = None
version_in (Some c) row = number_of (value_in (content_at c.column row))

-- through the converter, which null does not pass; null where it throws
abbrev pub converted_back : (List ℕ → Value → Option Value) → Option (List ℕ) → Value → Value
converted_back attribute None v = v
converted_back attribute (Some name) Value.Null = Value.Null
converted_back attribute (Some name) v = cell_value (attribute name v)

-- the value of an attribute in a row, back through its converter (chapter 3.8)
abbrev pub attribute_in : (List ℕ → Value → Option Value) → Row → Attribute → Value
attribute_in attribute row a = converted_back attribute a.converter (value_in (content_at a.column row))

-- an inverse side owns nothing, and no pairs are read
abbrev pub side_in : ℕ → Row → Side → List Identity
side_in table row (Side.ManyToOne c) = link_in table (content_at c.column row)
side_in table row (Side.OneToOne c) = link_in table (content_at c.column row)
side_in table row (Side.OneToOneInverse owner) = []
side_in table row (Side.OneToMany owner) = []
side_in table row (Side.ManyToMany join) = []
side_in table row (Side.ManyToManyInverse owner) = []

-- the link of a relation in a row
abbrev pub links_in : PersistenceUnit → Row → Relation → List Identity
links_in m row r = side_in (root_of m r.target).table row r.side

-- ---- the guess of an object of this class

-- the object of a class that a row may say, without pairs
abbrev pub guessed : World → Row → ℕ → Stored
guessed world row class =
    let m = world.model in
    record {
      class = class;
      version = version_in (root_of m class).version row;
      values = map (attribute_in world.attribute row) (attributes_of m class);
      owned = map (links_in m row) (relations_of m class);
    }

-- ---- whether it can be stored

-- a value of a key part: of its kind, not null, of the program
abbrev pub is_part : Part → Value → Bool
is_part part v = (fits part.kind v && not (is_null v)) && is_representable v

-- an identity of the hierarchy, of values of the program
abbrev pub is_named_by : Root → Identity → Bool
is_named_by root id = (id.table == root.table) && each_fits is_part root.key id.key

-- a value of an attribute: of its kind, of the program
abbrev pub is_value : Attribute → Value → Bool
is_value a v = fits a.kind v && is_representable v

-- identities of a relation's target
abbrev pub leads_well : PersistenceUnit → Relation → List Identity → Bool
leads_well m r ids = list_all (is_named_by (root_of m r.target)) ids

-- there exactly where the hierarchy has one, and an integer of the program
abbrev pub is_version : Option VersionColumn → Option ℤ → Bool
is_version column version = version_there column version && version_representable version

-- what the row does not say by itself: which identities, kinds of values, and whether the version
-- is there
abbrev pub is_sound : PersistenceUnit → Identity → Stored → Bool
is_sound m id x =
    is_named_by (root_of m x.class) id
    && (is_version (root_of m x.class).version x.version
    && (each_fits is_value (attributes_of m x.class) x.values
    && each_fits (leads_well m) (relations_of m x.class) x.owned))
