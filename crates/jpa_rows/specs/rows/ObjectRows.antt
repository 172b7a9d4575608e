-- The rows of a stored object: its main row in the table of its hierarchy, and a row of the join
-- table for each pair that it owns (Jakarta Persistence 3.1, chapters 2.10 relations, 2.12
-- hierarchies, 3.4.2 versions, 3.8 converters). And the rows of a set of them with the next numbers.
use Rattle.std.specs.Prelude.{ℕ, ℤ, List, [], ◌∷◌, ◌++◌, map, Option, Some, None}
use Rattle.std.specs.List.{flat_map, zip}
use Rattle.std.specs.Ordering.{nat_cmp}
use Rattle.jpa_value.specs.declared.value.Value.{Value}
use Rattle.jpa_value.specs.declared.value.Identity.{Identity}
use Rattle.jpa_model.specs.declared.unit.Attribute.{Attribute}
use Rattle.jpa_model.specs.declared.unit.Entity.{Entity}
use Rattle.jpa_model.specs.declared.unit.Relation.{Relation}
use Rattle.jpa_model.specs.declared.unit.Side.{Side}
use Rattle.jpa_model.specs.declared.unit.VersionColumn.{VersionColumn}
use Rattle.jpa_model.specs.Chains.{attributes_of, relations_of, root_of, entity_at}
use Rattle.jpa_behaviour.specs.Behaviour.{World}
use Rattle.jpa_stored.specs.declared.objects.stored.Stored.{Stored}
use Rattle.jpa_stored.specs.objects.Sets.{StoredSet}
use Rattle.jpa_rows.specs.declared.rows.row.Content.{Content}
use Rattle.jpa_rows.specs.declared.rows.row.Field.{Field}
use Rattle.jpa_rows.specs.rows.Rows.{RowId, Row, Rows}
use Rattle.jpa_rows.specs.rows.NextNumbers.{number_in_first, with_rows, number_rows}
use Rattle.jpa_rows.specs.laws.Slots.{filled}

-- ---- what stands in a column: nothing for null, nor for a relation that leads nowhere

-- what stands in the column of a value; nothing for null
abbrev pub value_content : Value → Option Content
value_content Value.Null = None
value_content (Value.Int n) = Some (Content.Value (Value.Int n))
value_content (Value.Text bytes) = Some (Content.Value (Value.Text bytes))
value_content (Value.Bytes bytes) = Some (Content.Value (Value.Bytes bytes))

-- what stands in the column of a version; nothing for none
abbrev pub version_content : Option ℤ → Option Content
version_content None = None
version_content (Some n) = Some (Content.Value (Value.Int n))

-- what stands in the column of a link: a reference by the target's key
abbrev pub link_content : List Identity → Option Content
link_content [] = None
link_content (id ∷ ids) = Some (Content.Reference id.key)

-- ---- the columns of an object's class, each with what the object holds in it

-- columns, each with what stands there, if anything
abbrev pub Places : Type 0
Places = List (ℕ × Option Content)

-- the column of a version, where the hierarchy has one
abbrev pub version_places : Option VersionColumn → Option ℤ → Places
version_places None version = []
version_places (Some c) version = (c.column, version_content version) ∷ []

-- what a converter gave; null where it gave nothing
abbrev pub cell_value : Option Value → Value
cell_value None = Value.Null
cell_value (Some v) = v

-- a value as it stands in its column: through its converter, which null does not pass (chapter 3.8)
abbrev pub column_value : World → Option (List ℕ) → Value → Value
column_value world None v = v
column_value world (Some name) Value.Null = Value.Null
column_value world (Some name) v = cell_value (world.column name v)

-- the columns of attributes
abbrev pub attribute_places : World → List (Attribute × Value) → Places
attribute_places world = map (λ p. ((p.0).column, value_content (column_value world (p.0).converter p.1)))

-- the owning side of a to-one relation has a column
abbrev pub side_places : Side → List Identity → Places
side_places (Side.ManyToOne c) ids = (c.column, link_content ids) ∷ []
side_places (Side.OneToOne c) ids = (c.column, link_content ids) ∷ []
side_places (Side.OneToOneInverse owner) ids = []
side_places (Side.OneToMany owner) ids = []
side_places (Side.ManyToMany join) ids = []
side_places (Side.ManyToManyInverse owner) ids = []

-- the columns of relations
abbrev pub relation_places : List (Relation × List Identity) → Places
relation_places = flat_map (λ p. side_places (p.0).side p.1)

-- what stands in column 0: the discriminator of the class (chapter 2.12)
abbrev pub discriminator_content : Entity → Content
discriminator_content e = Content.Value (Value.Text e.discriminator)

-- the columns of an object: discriminator, version, attributes, links
abbrev pub places_of : World → Stored → Places
places_of world x =
    let m = world.model in
    (0, Some (discriminator_content (entity_at m x.class)))
    ∷ version_places (root_of m x.class).version x.version
    ++ attribute_places world (zip (attributes_of m x.class) x.values)
    ++ relation_places (zip (relations_of m x.class) x.owned)

-- ---- the main row, which stands under the object's identity

-- a column with its content, as a field
abbrev pub field_of : ℕ × Content → Field
field_of e = record { column = e.0; content = e.1 }

-- the columns that hold something, rising
abbrev pub row_of_places : Places → Row
row_of_places places = map field_of (filled nat_cmp places)

-- the main row of an object
abbrev pub main_row : World → Stored → Row
main_row world x = row_of_places (places_of world x)

-- ---- pairs: the owner's key, and after it the target's

-- the id of a pair's row: the owner's key and then the target's (chapter 2.10)
abbrev pub pair_id : ℕ → Identity → Identity → RowId
pair_id join owner target = record { table = join; key = owner.key ++ target.key }

-- the row of a pair, which says 1
abbrev pub pair_row : Row
pair_row = number_in_first 1

-- the ids of the pairs that an owner has along a side
abbrev pub side_pairs : Identity → Side → List Identity → List RowId
side_pairs owner (Side.ManyToOne c) ids = []
side_pairs owner (Side.OneToOne c) ids = []
side_pairs owner (Side.OneToOneInverse o) ids = []
side_pairs owner (Side.OneToMany o) ids = []
side_pairs owner (Side.ManyToMany join) ids = map (pair_id join owner) ids
side_pairs owner (Side.ManyToManyInverse o) ids = []

-- the ids of the pairs that an owner has along relations
abbrev pub pairs_along : Identity → List (Relation × List Identity) → List RowId
pairs_along owner = flat_map (λ p. side_pairs owner (p.0).side p.1)

-- the pairs that an object owns
abbrev pub pair_ids : World → Identity → Stored → List RowId
pair_ids world id x = pairs_along id (zip (relations_of world.model x.class) x.owned)

-- ---- all rows of an object

-- the rows of pairs with these ids
abbrev pub as_pairs : List RowId → Rows
as_pairs = map (λ id. (id, pair_row))

-- the main row of an object, then its pairs
abbrev pub object_entries : World → Identity → Stored → Rows
object_entries world id x = (id, main_row world x) ∷ as_pairs (pair_ids world id x)

-- an object's rows by their ids
abbrev pub object_rows : World → Identity → Stored → Rows
object_rows world id x = with_rows (object_entries world id x) []

-- an object's rows over others
abbrev pub with_object : World → Identity → Stored → Rows → Rows
with_object world id x rows = with_rows (object_rows world id x) rows

-- ---- the rows of a set and of next numbers

-- rows with those of all objects of a set
abbrev pub with_set : World → StoredSet → Rows → Rows
with_set world [] rows = rows
with_set world (e ∷ set) rows = with_object world e.0 e.1 (with_set world set rows)

-- the rows of a set and of the next numbers
abbrev pub rows_of : World → StoredSet → List ℕ → Rows
rows_of world set numbers = with_set world set (number_rows world.model numbers)
