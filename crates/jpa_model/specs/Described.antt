-- The persistence unit that a description describes: places for names, in the order of the
-- description.
use Rattle.std.specs.Prelude.{ℕ, Bool, true, false, List, map, Option, Some, None, option_map, unwrap_or, unsigned_abs}
use Rattle.std.specs.Prelude.{filter_map, if◌then◌else◌, Result, Ok, Err, ◌≡◌, ◌⊎◌}
use Rattle.std.specs.List.{list_any, position_from}
use Rattle.jpa_value.specs.declared.refusal.Cause.{Cause}
use Rattle.jpa_value.specs.declared.refusal.MappingFault.{MappingFault}
use Rattle.jpa_model.specs.Chains.{same_name}
use Rattle.jpa_model.specs.Drafted.{place_of, relations_of, discriminator, event_of}
use Rattle.jpa_model.specs.WellFormed.{is_well_formed}
use Rattle.jpa_model.specs.declared.draft.Cascade.{Cascade}
use Rattle.jpa_model.specs.declared.draft.Draft.{Draft}
use Rattle.jpa_model.specs.declared.draft.DraftAttribute.{DraftAttribute}
use Rattle.jpa_model.specs.declared.draft.DraftColumn.{DraftColumn}
use Rattle.jpa_model.specs.declared.draft.DraftEntity.{DraftEntity}
use Rattle.jpa_model.specs.declared.draft.DraftListener.{DraftListener}
use Rattle.jpa_model.specs.declared.draft.DraftOrigin.{DraftOrigin}
use Rattle.jpa_model.specs.declared.draft.DraftRelation.{DraftRelation}
use Rattle.jpa_model.specs.declared.draft.DraftRoot.{DraftRoot}
use Rattle.jpa_model.specs.declared.draft.DraftSide.{DraftSide}
use Rattle.jpa_model.specs.declared.draft.DraftVersion.{DraftVersion}
use Rattle.jpa_model.specs.declared.draft.RelationKind.{RelationKind}
use Rattle.jpa_model.specs.declared.unit.Attribute.{Attribute}
use Rattle.jpa_model.specs.declared.unit.Cascades.{Cascades}
use Rattle.jpa_model.specs.declared.unit.Column.{Column}
use Rattle.jpa_model.specs.declared.unit.Entity.{Entity}
use Rattle.jpa_model.specs.declared.unit.Listener.{Listener}
use Rattle.jpa_model.specs.declared.unit.Origin.{Origin}
use Rattle.jpa_model.specs.declared.unit.PersistenceUnit.{PersistenceUnit}
use Rattle.jpa_model.specs.declared.unit.Relation.{Relation}
use Rattle.jpa_model.specs.declared.unit.Root.{Root}
use Rattle.jpa_model.specs.declared.unit.Side.{Side}
use Rattle.jpa_model.specs.declared.unit.VersionColumn.{VersionColumn}

-- a version, with its column
abbrev pub version_of : DraftVersion → VersionColumn
version_of v = record { name = v.name; column = unsigned_abs v.column }

-- a root, with its table, key and version
abbrev pub root_of : DraftRoot → Root
root_of r = record {
  table = unsigned_abs r.table;
  key = r.key;
  embedded = r.embedded;
  generated = r.generated;
  version = option_map version_of r.version;
}

-- where a class comes from: a root, or the place of its superclass
abbrev pub origin_of : Draft → DraftOrigin → Origin
origin_of d (DraftOrigin.Root r) = Origin.Root (root_of r)
origin_of d (DraftOrigin.Extends name) = Origin.Extends (unwrap_or (place_of d name) 0)

-- an attribute, with its column
abbrev pub attribute_of : DraftAttribute → Attribute
attribute_of a = record {
  name = a.name;
  kind = a.kind;
  column = unsigned_abs a.column;
  required = a.required;
  converter = a.converter;
}

-- the column of a link
abbrev pub column_of : DraftColumn → Column
column_of c = record { column = unsigned_abs c.column; required = c.required }

-- the owning side with a column: one-to-one, or else many-to-one
abbrev pub owning_side : RelationKind → Column → Side
owning_side RelationKind.OneToOne c = Side.OneToOne c
owning_side RelationKind.ManyToOne c = Side.ManyToOne c
owning_side RelationKind.OneToMany c = Side.ManyToOne c
owning_side RelationKind.ManyToMany c = Side.ManyToOne c

-- the inverse side of a relation, by its kind and the place of its owner
abbrev pub inverse_side : RelationKind → ℕ → Side
inverse_side RelationKind.OneToOne owner = Side.OneToOneInverse owner
inverse_side RelationKind.ManyToMany owner = Side.ManyToManyInverse owner
inverse_side RelationKind.OneToMany owner = Side.OneToMany owner
inverse_side RelationKind.ManyToOne owner = Side.OneToMany owner

-- the place of the relation of this name among those of a class
abbrev pub owner_place : Draft → Option ℕ → List ℕ → ℕ
owner_place d None name = 0
owner_place d (Some target) name = unwrap_or (position_from (λ o. same_name o.name name) 0 (relations_of d target)) 0

-- the side of a relation, by where it is kept (chapter 2.9)
abbrev pub side_of : Draft → RelationKind → Option ℕ → DraftSide → Side
side_of d kind target (DraftSide.Column c) = owning_side kind (column_of c)
side_of d kind target (DraftSide.JoinTable table) = Side.ManyToMany (unsigned_abs table)
side_of d kind target (DraftSide.MappedBy name) = inverse_side kind (owner_place d target name)

-- whether a cascade is PERSIST or ALL
abbrev pub is_persist : Cascade → Bool
is_persist Cascade.Persist = true
is_persist Cascade.Merge = false
is_persist Cascade.Remove = false
is_persist Cascade.Refresh = false
is_persist Cascade.Detach = false
is_persist Cascade.All = true

-- whether a cascade is MERGE or ALL
abbrev pub is_merge : Cascade → Bool
is_merge Cascade.Persist = false
is_merge Cascade.Merge = true
is_merge Cascade.Remove = false
is_merge Cascade.Refresh = false
is_merge Cascade.Detach = false
is_merge Cascade.All = true

-- whether a cascade is REMOVE or ALL
abbrev pub is_remove : Cascade → Bool
is_remove Cascade.Persist = false
is_remove Cascade.Merge = false
is_remove Cascade.Remove = true
is_remove Cascade.Refresh = false
is_remove Cascade.Detach = false
is_remove Cascade.All = true

-- whether a cascade is REFRESH or ALL
abbrev pub is_refresh : Cascade → Bool
is_refresh Cascade.Persist = false
is_refresh Cascade.Merge = false
is_refresh Cascade.Remove = false
is_refresh Cascade.Refresh = true
is_refresh Cascade.Detach = false
is_refresh Cascade.All = true

-- whether a cascade is DETACH or ALL
abbrev pub is_detach : Cascade → Bool
is_detach Cascade.Persist = false
is_detach Cascade.Merge = false
is_detach Cascade.Remove = false
is_detach Cascade.Refresh = false
is_detach Cascade.Detach = true
is_detach Cascade.All = true

-- which operations are cascaded
abbrev pub cascades_of : List Cascade → Cascades
cascades_of cs =
    record {
      persist = list_any is_persist cs;
      merge = list_any is_merge cs;
      remove = list_any is_remove cs;
      refresh = list_any is_refresh cs;
      detach = list_any is_detach cs;
    }

-- a relation, with the place of its target
abbrev pub relation_of : Draft → DraftRelation → Relation
relation_of d r =
    let target = place_of d r.target in
    record {
      name = r.name;
      side = side_of d r.kind target r.side;
      target = unwrap_or target 0;
      cascade = cascades_of r.cascade;
      orphan_removal = r.orphan_removal;
    }

-- a listener, with those of its events that there are
abbrev pub listener_of : DraftListener → Listener
listener_of l = record { name = l.name; events = filter_map event_of l.events }

-- an entity, with its discriminator and what it declares
abbrev pub entity_of : Draft → DraftEntity → Entity
entity_of d e = record {
  name = e.name;
  origin = origin_of d e.origin;
  discriminator = discriminator e;
  attributes = map attribute_of e.attributes;
  relations = map (relation_of d) e.relations;
  listeners = map listener_of e.listeners;
  callbacks = map listener_of e.callbacks;
  exclude_default = e.exclude_default;
  exclude_super = e.exclude_super;
}

-- the persistence unit that a description describes
abbrev pub unit_of : Draft → PersistenceUnit
unit_of d = record {
  revision = unsigned_abs d.revision;
  listeners = map listener_of d.listeners;
  entities = map (entity_of d) d.entities;
}

-- what a check answers where there is memory
abbrev pub checked : Draft → Result PersistenceUnit Cause
checked d = if is_well_formed d then Ok (unit_of d) else Err (Cause.Mapping MappingFault.Model)

-- the answer is this one, unless a growth was refused
abbrev pub IsUnlessMemory : {A : Type 0} → Result A Cause → Result A Cause → Type 0
IsUnlessMemory (Ok a) wanted = Ok a ≡ wanted
IsUnlessMemory (Err cause) wanted = (cause ≡ Cause.OutOfMemory) ⊎ (Err cause ≡ wanted)
