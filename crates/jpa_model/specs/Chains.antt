-- Entities by number, their chains, and what a name means in a chain.
use Rattle.std.specs.Prelude.{ℕ, zero, suc, Bool, true, false, ◌==◌, List, [], ◌∷◌, ◌++◌, map, length, slice_index_or}
use Rattle.std.specs.Prelude.{Option, Some, None, if◌then◌else◌, option_map}
use Rattle.std.specs.List.{flat_map, list_any, position_from}
use Rattle.std.specs.Ordering.{is_eq, nat_cmp}
use Rattle.std.specs.Cmp.Lexicographic.{slice_cmp}
use Rattle.jpa_model.specs.declared.unit.Part.{Part}
use Rattle.jpa_model.specs.declared.unit.Root.{Root}
use Rattle.jpa_model.specs.declared.unit.VersionColumn.{VersionColumn}
use Rattle.jpa_model.specs.declared.unit.Origin.{Origin}
use Rattle.jpa_model.specs.declared.unit.Attribute.{Attribute}
use Rattle.jpa_model.specs.declared.unit.Column.{Column}
use Rattle.jpa_model.specs.declared.unit.Side.{Side}
use Rattle.jpa_model.specs.declared.unit.Cascades.{Cascades}
use Rattle.jpa_model.specs.declared.unit.Relation.{Relation}
use Rattle.jpa_model.specs.declared.unit.Entity.{Entity}
use Rattle.jpa_model.specs.declared.unit.Member.{Member}
use Rattle.jpa_model.specs.declared.unit.PersistenceUnit.{PersistenceUnit}

-- whether two names are the same, byte for byte
abbrev pub same_name : List ℕ → List ℕ → Bool
same_name a b = is_eq (slice_cmp nat_cmp a b)

-- what stands where a number names no entity
abbrev pub no_root : Root
no_root = record { table = 0; key = []; embedded = None; generated = false; version = None }

-- what stands where a number names no entity
abbrev pub no_entity : Entity
no_entity = record {
  name = [];
  origin = Origin.Root no_root;
  discriminator = [];
  attributes = [];
  relations = [];
  listeners = [];
  callbacks = [];
  exclude_default = false;
  exclude_super = false;
}

-- the entity at a place
abbrev pub entity_at : PersistenceUnit → ℕ → Entity
entity_at m class = slice_index_or m.entities class no_entity

-- the classes from the root to this one; no chain is longer than the list of entities
abbrev pub chain_from : PersistenceUnit → ℕ → ℕ → Origin → List ℕ
chain_from m zero class origin = class ∷ []
chain_from m (suc n) class (Origin.Root r) = class ∷ []
chain_from m (suc n) class (Origin.Extends parent) = chain_from m n parent (entity_at m parent).origin ++ class ∷ []

-- the classes from the root to this one (chapter 2.11)
abbrev pub chain : PersistenceUnit → ℕ → List ℕ
chain m class = chain_from m (length m.entities) class (entity_at m class).origin

-- the superclass that an origin names
abbrev pub superclass_in : Origin → Option ℕ
superclass_in (Origin.Root r) = None
superclass_in (Origin.Extends parent) = Some parent

-- the root of a class's hierarchy
abbrev pub root_class : PersistenceUnit → ℕ → ℕ
root_class m class = slice_index_or (chain m class) 0 class

-- the root that an origin is; a blank one where it names a superclass
abbrev pub root_in : Origin → Root
root_in (Origin.Root r) = r
root_in (Origin.Extends parent) = no_root

-- the table, key and version of a class's hierarchy (chapter 2.11)
abbrev pub root_of : PersistenceUnit → ℕ → Root
root_of m class = root_in (entity_at m (root_class m class)).origin

-- the class itself or a subclass
abbrev pub is_kind_of : PersistenceUnit → ℕ → ℕ → Bool
is_kind_of m class above = list_any (λ c. c == above) (chain m class)

-- the attributes along the chain, those of superclasses first (chapter 2.11)
abbrev pub attributes_of : PersistenceUnit → ℕ → List Attribute
attributes_of m class = flat_map (λ c. (entity_at m c).attributes) (chain m class)

-- the relations along the chain, those of superclasses first (chapter 2.11)
abbrev pub relations_of : PersistenceUnit → ℕ → List Relation
relations_of m class = flat_map (λ c. (entity_at m c).relations) (chain m class)

-- the class that declares each relation of the chain
abbrev pub declarers_of : PersistenceUnit → ℕ → List ℕ
declarers_of m class = flat_map (λ c. map (λ r. c) (entity_at m c).relations) (chain m class)

-- whether objects of the other class hold the relation that stands at place r of this one's chain
abbrev pub is_held_by : PersistenceUnit → ℕ → ℕ → ℕ → Bool
is_held_by m class r other = is_kind_of m other (slice_index_or (declarers_of m class) r class)

-- whether the hierarchy of a class has a version (chapter 3.4.2)
abbrev pub is_versioned : PersistenceUnit → ℕ → Bool
is_versioned m class = some (root_of m class).version
  where
    some : Option VersionColumn → Bool
    some None = false
    some (Some v) = true

-- the kinds of sides
abbrev pub is_to_one : Side → Bool
is_to_one (Side.ManyToOne c) = true
is_to_one (Side.OneToOne c) = true
is_to_one (Side.OneToOneInverse owner) = true
is_to_one (Side.OneToMany owner) = false
is_to_one (Side.ManyToMany table) = false
is_to_one (Side.ManyToManyInverse owner) = false

-- the place of the owner, for an inverse side
abbrev pub owner_of : Side → Option ℕ
owner_of (Side.ManyToOne c) = None
owner_of (Side.OneToOne c) = None
owner_of (Side.OneToOneInverse owner) = Some owner
owner_of (Side.OneToMany owner) = Some owner
owner_of (Side.ManyToMany table) = None
owner_of (Side.ManyToManyInverse owner) = Some owner

-- the column that an owning side to one object has
abbrev pub column_of : Side → Option Column
column_of (Side.ManyToOne c) = Some c
column_of (Side.OneToOne c) = Some c
column_of (Side.OneToOneInverse owner) = None
column_of (Side.OneToMany owner) = None
column_of (Side.ManyToMany table) = None
column_of (Side.ManyToManyInverse owner) = None

-- no operation is cascaded
abbrev pub no_cascade : Cascades
no_cascade = record { persist = false; merge = false; remove = false; refresh = false; detach = false }

-- what stands where a place has no relation
abbrev pub no_relation : Relation
no_relation = record {
  name = [];
  side = Side.ManyToOne (record { column = 0; required = false });
  target = 0;
  cascade = no_cascade;
  orphan_removal = false;
}

-- the relation at a place of a class's chain
abbrev pub relation_at : PersistenceUnit → ℕ → ℕ → Relation
relation_at m class r = slice_index_or (relations_of m class) r no_relation

-- the name of a key part, behind that of the embedded id and a dot, where there is one (chapter
-- 2.5)
abbrev pub part_name : Root → Part → List ℕ
part_name root part = under root.embedded
  where
    under : Option (List ℕ) → List ℕ
    under None = part.name
    under (Some id) = id ++ 46 ∷ part.name

-- whether a name is that of the version
abbrev pub is_version_name : Root → List ℕ → Bool
is_version_name root name = is root.version
  where
    is : Option VersionColumn → Bool
    is None = false
    is (Some v) = same_name v.name name

-- the first of two that is there
abbrev pub or_else : {A : Type 0} → Option A → Option A → Option A
or_else None b = b
or_else (Some a) b = Some a

-- what the name means among these
abbrev pub member_among : Root → List Attribute → List Relation → List ℕ → Option Member
member_among root attributes relations name =
    or_else (option_map Member.KeyPart (position_from (λ part. same_name (part_name root part) name) 0 root.key))
    (or_else (if is_version_name root name then Some Member.Version else None)
    (or_else (option_map Member.Attribute (position_from (λ a. same_name a.name name) 0 attributes))
    (option_map Member.Relation (position_from (λ r. same_name r.name name) 0 relations))))

-- what the name means in the chain of the class
abbrev pub member_of : PersistenceUnit → ℕ → List ℕ → Option Member
member_of m class name = member_among (root_of m class) (attributes_of m class) (relations_of m class) name

-- the place of the entity of a name
abbrev pub class_of : PersistenceUnit → List ℕ → Option ℕ
class_of m name = position_from (λ e. same_name e.name name) 0 m.entities
