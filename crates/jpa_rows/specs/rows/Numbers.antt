-- The numbers of a unit's tables and columns fit 32 bits, since they lie from 1 to 1,000,000; and a
-- target is an entity.
use Rattle.std.specs.Prelude.{ℕ, ◌<◌, ◌^◌, List, length, All, Option, Some, None, IfSome}
use Rattle.jpa_model.specs.declared.unit.Attribute.{Attribute}
use Rattle.jpa_model.specs.declared.unit.Column.{Column}
use Rattle.jpa_model.specs.declared.unit.Entity.{Entity}
use Rattle.jpa_model.specs.declared.unit.Origin.{Origin}
use Rattle.jpa_model.specs.declared.unit.PersistenceUnit.{PersistenceUnit}
use Rattle.jpa_model.specs.declared.unit.Relation.{Relation}
use Rattle.jpa_model.specs.declared.unit.Root.{Root}
use Rattle.jpa_model.specs.declared.unit.Side.{Side}
use Rattle.jpa_model.specs.declared.unit.VersionColumn.{VersionColumn}
use Rattle.jpa_model.specs.Chains.{column_of}

-- the join table of a side, if it has one
abbrev pub join_of : Side → Option ℕ
join_of (Side.ManyToOne c) = None
join_of (Side.OneToOne c) = None
join_of (Side.OneToOneInverse owner) = None
join_of (Side.OneToMany owner) = None
join_of (Side.ManyToMany join) = Some join
join_of (Side.ManyToManyInverse owner) = None

-- the column of a version fits 32 bits
abbrev pub IsNarrowVersion : Option VersionColumn → Type 0
IsNarrowVersion version = IfSome version (λ v. v.column < 2 ^ 32)

-- the column of a link fits 32 bits
abbrev pub IsNarrowLink : Option Column → Type 0
IsNarrowLink column = IfSome column (λ c. c.column < 2 ^ 32)

-- the table of a root and the column of its version fit 32 bits
pub record IsNarrowRoot (root : Root) : Type 0 where
  pub table : root.table < 2 ^ 32
  pub version : IsNarrowVersion root.version

-- the numbers of a root fit 32 bits
abbrev pub IsNarrowOrigin : Origin → Type 0
IsNarrowOrigin (Origin.Root root) = IsNarrowRoot root
IsNarrowOrigin (Origin.Extends parent) = Unit {0}

-- a relation's target is an entity, and its column or join table fits 32 bits
pub record IsNarrowRelation (m : PersistenceUnit) (r : Relation) : Type 0 where
  pub target : r.target < length m.entities
  pub column : IsNarrowLink (column_of r.side)
  pub join : IfSome (join_of r.side) (λ table. table < 2 ^ 32)

-- the columns of attributes fit 32 bits
abbrev pub AreNarrowAttributes : List Attribute → Type 0
AreNarrowAttributes attributes = All (λ a. a.column < 2 ^ 32) attributes

-- these relations lead to entities, and their numbers fit 32 bits
abbrev pub AreNarrowRelations : PersistenceUnit → List Relation → Type 0
AreNarrowRelations m relations = All (IsNarrowRelation m) relations

-- the numbers of an entity fit 32 bits, and its relations lead to entities
pub record IsNarrow (m : PersistenceUnit) (e : Entity) : Type 0 where
  pub origin : IsNarrowOrigin e.origin
  pub attributes : AreNarrowAttributes e.attributes
  pub relations : AreNarrowRelations m e.relations
