-- What names mean in a description: superclasses, chains, hierarchies, and what the classes of
-- these declare.
use Rattle.std.specs.Prelude.{ℕ, zero, suc, ℤ, pos, false, ◌==◌, List, [], ◌∷◌, ◌++◌, map, filter, length}
use Rattle.std.specs.Prelude.{slice_index_or, Option, Some, None, unwrap_or, if◌then◌else◌, codes}
use Rattle.std.specs.List.{flat_map, position_from, range_with_len}
use Rattle.std.specs.Borrow.{Bor}
use Rattle.jpa_model.specs.Chains.{same_name}
use Rattle.jpa_value.specs.declared.event.LifecycleEvent.{LifecycleEvent}
use Rattle.jpa_model.specs.declared.draft.Draft.{Draft}
use Rattle.jpa_model.specs.declared.draft.DraftEntity.{DraftEntity}
use Rattle.jpa_model.specs.declared.draft.DraftOrigin.{DraftOrigin}
use Rattle.jpa_model.specs.declared.draft.DraftRelation.{DraftRelation}
use Rattle.jpa_model.specs.declared.draft.DraftRoot.{DraftRoot}
use Rattle.jpa_model.specs.declared.draft.DraftSide.{DraftSide}

-- what is borrowed, in its order
abbrev pub names_in : {T : Type 0} → List (Bor T) → List T
names_in names = map (λ n. n.now) names

-- what an option gives a list
abbrev pub listed : {A B : Type 0} → (A → B) → Option A → List B
listed f None = []
listed f (Some a) = f a ∷ []

-- what stands where a place names no entity
abbrev pub no_entity : DraftEntity
no_entity = record {
  name = [];
  origin = DraftOrigin.Root (record { table = pos 0; key = []; embedded = None; generated = false; version = None });
  discriminator = None;
  attributes =
      [];
  relations = [];
  listeners = [];
  callbacks = [];
  exclude_default = false;
  exclude_super = false;
}

-- the entity at a place
abbrev pub entity_at : Draft → ℕ → DraftEntity
entity_at d class = slice_index_or d.entities class no_entity

-- the places of the entities
abbrev pub classes : Draft → List ℕ
classes d = range_with_len 0 (length d.entities)

-- the place of the entity of this name
abbrev pub place_of : Draft → List ℕ → Option ℕ
place_of d name = position_from (λ e. same_name e.name name) 0 d.entities

-- the place of the superclass that an origin names, if it is an entity
abbrev pub superclass_in : Draft → DraftOrigin → Option ℕ
superclass_in d (DraftOrigin.Root r) = None
superclass_in d (DraftOrigin.Extends name) = place_of d name

-- the place of a class's superclass, if it has one
abbrev pub superclass_of : Draft → ℕ → Option ℕ
superclass_of d class = superclass_in d (entity_at d class).origin

-- the classes from the first to this one, at most n steps up
abbrev pub chain_from : Draft → ℕ → ℕ → Option ℕ → List ℕ
chain_from d zero class superclass = class ∷ []
chain_from d (suc n) class None = class ∷ []
chain_from d (suc n) class (Some superclass) = chain_from d n superclass (superclass_of d superclass) ++ class ∷ []

-- the classes from the root to this one; no chain without a cycle is longer than the list of
-- entities
abbrev pub chain : Draft → ℕ → List ℕ
chain d class = chain_from d (length d.entities) class (superclass_of d class)

-- the chains of all entities
abbrev pub chains : Draft → List (List ℕ)
chains d = map (chain d) (classes d)

-- the first class of a chain
abbrev pub first_of : List ℕ → ℕ
first_of chain = slice_index_or chain 0 0

-- the classes whose chains begin with this one
abbrev pub hierarchy : Draft → ℕ → List ℕ
hierarchy d root = filter (λ class. first_of (chain d class) == root) (classes d)

-- what is declared by some classes, class by class
abbrev pub declared_by : {A : Type 0} → (DraftEntity → List A) → Draft → List ℕ → List A
declared_by declared d places = flat_map (λ class. declared (entity_at d class)) places

-- the key is named by its embedded id, else by its parts
abbrev pub key_names : DraftRoot → List (List ℕ)
key_names root = under root.embedded
  where
    under : Option (List ℕ) → List (List ℕ)
    under None = map (λ part. part.name) root.key
    under (Some id) = id ∷ []

-- the names of a root: those of its key and of its version
abbrev pub root_names : DraftOrigin → List (List ℕ)
root_names (DraftOrigin.Root root) = key_names root ++ listed (λ v. v.name) root.version
root_names (DraftOrigin.Extends name) = []

-- the names of key, version, attributes and relations
abbrev pub member_names : DraftEntity → List (List ℕ)
member_names e = root_names e.origin ++ map (λ a. a.name) e.attributes ++ map (λ r. r.name) e.relations

-- the column of a root's version, if it has one
abbrev pub version_columns : DraftOrigin → List ℤ
version_columns (DraftOrigin.Root root) = listed (λ v. v.column) root.version
version_columns (DraftOrigin.Extends name) = []

-- the column of an owning side, if it has one
abbrev pub side_columns : DraftSide → List ℤ
side_columns (DraftSide.Column c) = c.column ∷ []
side_columns (DraftSide.JoinTable table) = []
side_columns (DraftSide.MappedBy name) = []

-- the columns of version, attributes and relations
abbrev pub columns : DraftEntity → List ℤ
columns e = version_columns e.origin ++ map (λ a. a.column) e.attributes ++ flat_map (λ r. side_columns r.side)
    e.relations

-- the table of a root
abbrev pub root_tables : DraftOrigin → List ℤ
root_tables (DraftOrigin.Root root) = root.table ∷ []
root_tables (DraftOrigin.Extends name) = []

-- the join table of a side, if it has one
abbrev pub join_tables : DraftSide → List ℤ
join_tables (DraftSide.Column c) = []
join_tables (DraftSide.JoinTable table) = table ∷ []
join_tables (DraftSide.MappedBy name) = []

-- the root's table and the join tables
abbrev pub tables : DraftEntity → List ℤ
tables e = root_tables e.origin ++ flat_map (λ r. join_tables r.side) e.relations

-- the discriminator of an entity: the one that is written, else its name (chapter 2.12)
abbrev pub discriminator : DraftEntity → List ℕ
discriminator e = unwrap_or e.discriminator e.name

-- the relations along the chain of a class
abbrev pub relations_of : Draft → ℕ → List DraftRelation
relations_of d class = declared_by (λ e. e.relations) d (chain d class)

-- the event of this name
abbrev pub event_of : List ℕ → Option LifecycleEvent
event_of name =
    if same_name name (codes "PrePersist") then Some LifecycleEvent.PrePersist else
    if same_name name (codes "PostPersist") then Some LifecycleEvent.PostPersist else
    if same_name name (codes "PreRemove") then Some LifecycleEvent.PreRemove else
    if same_name name (codes "PostRemove") then Some LifecycleEvent.PostRemove else
    if same_name name (codes "PreUpdate") then Some LifecycleEvent.PreUpdate else
    if same_name name (codes "PostUpdate") then Some LifecycleEvent.PostUpdate else
    if same_name name (codes "PostLoad") then Some LifecycleEvent.PostLoad else None
