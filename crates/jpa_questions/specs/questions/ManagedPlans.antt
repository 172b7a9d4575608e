-- By what a manager finds the objects for a question, in lines of words.
use Rattle.std.specs.Prelude.{◌≡◌, ◌⊎◌, ℕ, List, [], ◌∷◌, ◌++◌, codes, slice_get, Option, Some, None}
use Rattle.std.specs.List.{flat_map}
use Rattle.jpa_value.specs.declared.refusal.Argument.{Argument}
use Rattle.jpa_value.specs.declared.refusal.Cause.{Cause}
use Rattle.jpa_model.specs.declared.unit.Attribute.{Attribute}
use Rattle.jpa_model.specs.declared.unit.Entity.{Entity}
use Rattle.jpa_model.specs.declared.unit.Member.{Member}
use Rattle.jpa_model.specs.declared.unit.Part.{Part}
use Rattle.jpa_model.specs.declared.unit.PersistenceUnit.{PersistenceUnit}
use Rattle.jpa_model.specs.declared.unit.Relation.{Relation}
use Rattle.jpa_model.specs.Chains.{attributes_of, relations_of, root_of}
use Rattle.jpql_run.specs.declared.ways.FoundBy.{FoundBy}
use Rattle.jpql_run.specs.declared.ways.Within.{Within}
use Rattle.jpql_run.specs.declared.ways.Way.{Way}

-- the name of an entity, of an attribute, a relation, a part of a key; none where there is no such
abbrev pub name_of_entity : Option Entity → List ℕ
name_of_entity None = []
name_of_entity (Some e) = e.name

-- the name of an attribute, if there is one
abbrev pub name_of_attribute : Option Attribute → List ℕ
name_of_attribute None = []
name_of_attribute (Some a) = a.name

-- the name of a relation, if there is one
abbrev pub name_of_relation : Option Relation → List ℕ
name_of_relation None = []
name_of_relation (Some r) = r.name

-- the name of a part of a key, if there is one
abbrev pub name_of_part : Option Part → List ℕ
name_of_part None = []
name_of_part (Some p) = p.name

-- what a class gives, where there is the class
abbrev pub if_entity : Option Entity → List ℕ → List ℕ
if_entity None name = []
if_entity (Some e) name = name

-- the name of the entity at a place
abbrev pub entity_name : PersistenceUnit → ℕ → List ℕ
entity_name m class = name_of_entity (slice_get m.entities class)

-- the name of the attribute at a place of a class's chain
abbrev pub attribute_name : PersistenceUnit → ℕ → ℕ → List ℕ
attribute_name m class i =
    if_entity (slice_get m.entities class) (name_of_attribute (slice_get (attributes_of m class) i))

-- the name of the relation at a place of a class's chain
abbrev pub relation_name : PersistenceUnit → ℕ → ℕ → List ℕ
relation_name m class i =
    if_entity (slice_get m.entities class) (name_of_relation (slice_get (relations_of m class) i))

-- the name of a part of a class's key
abbrev pub part_name : PersistenceUnit → ℕ → ℕ → List ℕ
part_name m class i = if_entity (slice_get m.entities class) (name_of_part (slice_get (root_of m class).key i))

-- the name of a member of a class
abbrev pub member_name : PersistenceUnit → ℕ → Member → List ℕ
member_name m class (Member.KeyPart i) = part_name m class i
member_name m class Member.Version = codes "version"
member_name m class (Member.Attribute i) = attribute_name m class i
member_name m class (Member.Relation i) = relation_name m class i

-- the name of a member that is told, if one is
abbrev pub optional_name : PersistenceUnit → ℕ → Option Member → List ℕ
optional_name m class None = []
optional_name m class (Some member) = member_name m class member

-- what is told before the name of a class
abbrev pub verb : Way → List ℕ
verb Way.All = codes "looks at all of "
verb (Way.Along member) = codes "goes along "
verb _ = codes "looks up "

-- what is told behind it
abbrev pub words : Way → List ℕ
words Way.Itself = codes " itself"
words Way.Key = codes " by its key"
words (Way.Reference member) = codes " by "
words (Way.Index member) = codes " by the index of "
words Way.KeySpan = codes " by a range of keys"
words Way.Made = codes " by an index that is made for the query"
words (Way.Along member) = codes "."
words Way.All = []

-- the member whose name follows, if one does
abbrev pub member_of : Way → Option Member
member_of (Way.Reference member) = Some member
member_of (Way.Index member) = Some member
member_of (Way.Along member) = Some member
member_of _ = None

-- what is told of a variable of a nested block, in EXISTS or beside a value
abbrev pub place : Within → List ℕ
place Within.Statement = []
place Within.Exists = codes "in EXISTS: "
place Within.Rows = codes "in a subquery: "

-- by what the objects for a variable are found, in a line
abbrev pub line : PersistenceUnit → FoundBy → List ℕ
line m f = place f.within ++ verb f.way ++ entity_name m f.class ++ words f.way
    ++ optional_name m f.class (member_of f.way) ++ 10 ∷ []

-- a text of such lines
abbrev pub IsPlan : PersistenceUnit → List ℕ → Type 0
IsPlan m text = (all : List FoundBy) × (text ≡ flat_map (line m) all)

-- a word names no entity, or no member that can have an index
abbrev pub IsIndexRefused : Cause → Type 0
IsIndexRefused cause = (cause ≡ Cause.IllegalArgument Argument.Entity) ⊎ (cause ≡ Cause.IllegalArgument Argument.Name)

-- the same, or for want of memory
abbrev pub IsUnplanned : Cause → Type 0
IsUnplanned cause = (cause ≡ Cause.OutOfMemory) ⊎ IsIndexRefused cause
