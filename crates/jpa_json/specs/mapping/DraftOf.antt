-- What a mapping description says: each object has its required members, may have its optional
-- ones, and has no others; each member is of its type.
use Rattle.std.specs.Prelude.{⊤, ◌&&◌, ℕ, Bool, true, false, List, [], ◌∷◌, codes, if◌then◌else◌, Option, Some, None}
use Rattle.std.specs.Prelude.{is_some, bytes_eq}
use Rattle.std.specs.List.{list_any}
use Rattle.jpa_value.specs.declared.value.Kind.{Kind}
use Rattle.jpa_model.specs.declared.unit.Part.{Part}
use Rattle.jpa_model.specs.declared.draft.Cascade.{Cascade}
use Rattle.jpa_model.specs.declared.draft.Draft.{Draft}
use Rattle.jpa_model.specs.declared.draft.DraftAttribute.{DraftAttribute}
use Rattle.jpa_model.specs.declared.draft.DraftEntity.{DraftEntity}
use Rattle.jpa_model.specs.declared.draft.DraftListener.{DraftListener}
use Rattle.jpa_model.specs.declared.draft.DraftOrigin.{DraftOrigin}
use Rattle.jpa_model.specs.declared.draft.DraftRelation.{DraftRelation}
use Rattle.jpa_model.specs.declared.draft.DraftSide.{DraftSide}
use Rattle.jpa_model.specs.declared.draft.DraftVersion.{DraftVersion}
use Rattle.jpa_model.specs.declared.draft.RelationKind.{RelationKind}
use Rattle.serde_json.specs.Data.{Data, null, boolean, number, string, array, object, Members, no_members, member}
use Rattle.serde_json.specs.Find.{get, as_str, as_bool}
use Rattle.jpa_json.specs.readers.Members.{integer_of, list_of}
use Rattle.jpa_json.specs.readers.Outcome.{◌>>=◌, guard}

-- ---- members

-- whether a name is one of these
abbrev pub is_listed : List (List ℕ) → List ℕ → Bool
is_listed names name = list_any (λ listed. bytes_eq listed name) names

-- whether each member has one of these names
abbrev pub are_listed : List (List ℕ) → Members → Bool
are_listed names no_members = true
are_listed names (member name d ms) = is_listed names name && are_listed names ms

-- an object without other members than these
abbrev pub only : List (List ℕ) → Data → Option ⊤
only names null = None
only names (boolean b) = None
only names (number n) = None
only names (string s) = None
only names (array ds) = None
only names (object ms) = guard (are_listed names ms)

-- a member that must be there
abbrev pub required : {A : Type 0} → (Data → Option A) → List ℕ → Data → Option A
required meaning name d = get name d >>= meaning

-- the meaning of a member, where the member is there
abbrev pub if_there : {A : Type 0} → (Data → Option A) → Option Data → Option (Option A)
if_there meaning (Some d) = meaning d >>= λ a. Some (Some a)
if_there meaning None = Some None

-- a member that may be there
abbrev pub optional : {A : Type 0} → (Data → Option A) → List ℕ → Data → Option (Option A)
optional meaning name d = if_there meaning (get name d)

-- a truth, which is false where it is absent
abbrev pub true_if_there : Option Data → Option Bool
true_if_there (Some d) = as_bool d
true_if_there None = Some false

-- a truth that is false where it is absent
abbrev pub flag : List ℕ → Data → Option Bool
flag name d = true_if_there (get name d)

-- the items of a list, which has none where it is absent
abbrev pub items_if_there : {A : Type 0} → (Data → Option A) → Option Data → Option (List A)
items_if_there meaning (Some d) = list_of meaning d
items_if_there meaning None = Some []

-- a list that is empty where it is absent
abbrev pub list_at : {A : Type 0} → (Data → Option A) → List ℕ → Data → Option (List A)
list_at meaning name d = items_if_there meaning (get name d)

-- ---- words

-- the type of a name: int, text or bytes
abbrev pub kind_named : List ℕ → Option Kind
kind_named word =
    if bytes_eq word (codes "int") then Some Kind.Int
    else if bytes_eq word (codes "text") then Some Kind.Text
    else if bytes_eq word (codes "bytes") then Some Kind.Bytes
    else None

-- a type, by its name
abbrev pub kind_of : Data → Option Kind
kind_of d = as_str d >>= kind_named

-- the kind of a relation by its name
abbrev pub relation_kind_named : List ℕ → Option RelationKind
relation_kind_named word =
    if bytes_eq word (codes "manyToOne") then Some RelationKind.ManyToOne
    else if bytes_eq word (codes "oneToMany") then Some RelationKind.OneToMany
    else if bytes_eq word (codes "oneToOne") then Some RelationKind.OneToOne
    else if bytes_eq word (codes "manyToMany") then Some RelationKind.ManyToMany
    else None

-- the kind of a relation (chapter 2.9)
abbrev pub relation_kind_of : Data → Option RelationKind
relation_kind_of d = as_str d >>= relation_kind_named

-- the cascade of a name
abbrev pub cascade_named : List ℕ → Option Cascade
cascade_named word =
    if bytes_eq word (codes "PERSIST") then Some Cascade.Persist
    else if bytes_eq word (codes "MERGE") then Some Cascade.Merge
    else if bytes_eq word (codes "REMOVE") then Some Cascade.Remove
    else if bytes_eq word (codes "REFRESH") then Some Cascade.Refresh
    else if bytes_eq word (codes "DETACH") then Some Cascade.Detach
    else if bytes_eq word (codes "ALL") then Some Cascade.All
    else None

-- a cascade, by its name (chapter 3.2)
abbrev pub cascade_of : Data → Option Cascade
cascade_of d = as_str d >>= cascade_named

-- ---- objects

-- a part of a key
unfoldable pub part_of : Data → Option Part
part_of d = do
  known ← only (codes "name" ∷ codes "type" ∷ []) d
  name ← required as_str (codes "name") d
  kind ← required kind_of (codes "type") d
  Some (record { name = name; kind = kind })

-- a version: name and column (chapter 3.4.2)
unfoldable pub version_of : Data → Option DraftVersion
version_of d = do
  known ← only (codes "name" ∷ codes "column" ∷ []) d
  name ← required as_str (codes "name") d
  column ← required integer_of (codes "column") d
  Some (record { name = name; column = column })

-- what `since`, `default` and `was` hold is what the history says
abbrev pub attribute_members : List (List ℕ)
attribute_members =
    codes "name" ∷ codes "type" ∷ codes "column" ∷ codes "required" ∷ codes "converter" ∷ codes "since"
    ∷ codes "default"
    ∷ codes "was" ∷ []

-- an attribute (chapter 2.2)
unfoldable pub attribute_of : Data → Option DraftAttribute
attribute_of d = do
  known ← only attribute_members d
  name ← required as_str (codes "name") d
  kind ← required kind_of (codes "type") d
  column ← required integer_of (codes "column") d
  not_null ← flag (codes "required") d
  converter ← optional as_str (codes "converter") d
  Some (record { name = name; kind = kind; column = column; required = not_null; converter = converter })

-- exactly one of the members `column`, `joinTable` and `mappedBy`, and `required` beside the first
-- alone
unfoldable pub side_of : Option Data → Option Data → Option Data → Option Data → Option DraftSide
side_of (Some d) None None needed = do
  column ← integer_of d
  not_null ← true_if_there needed
  Some (DraftSide.Column (record { column = column; required = not_null }))
side_of None (Some d) None None = do
  table ← integer_of d
  Some (DraftSide.JoinTable table)
side_of None None (Some d) None = do
  name ← as_str d
  Some (DraftSide.MappedBy name)
side_of column table owner needed = None

-- where a relation is kept
abbrev pub side_at : Data → Option DraftSide
side_at d = side_of (get (codes "column") d) (get (codes "joinTable") d) (get (codes "mappedBy") d)
    (get (codes "required") d)

-- the members that a relation may have
abbrev pub relation_members : List (List ℕ)
relation_members =
    codes "name" ∷ codes "kind" ∷ codes "target" ∷ codes "column" ∷ codes "joinTable" ∷ codes "mappedBy"
    ∷ codes "required" ∷ codes "cascade"
    ∷ codes "orphanRemoval" ∷ []

-- a relation (chapter 2.9)
unfoldable pub relation_of : Data → Option DraftRelation
relation_of d = do
  known ← only relation_members d
  name ← required as_str (codes "name") d
  kind ← required relation_kind_of (codes "kind") d
  target ← required as_str (codes "target") d
  side ← side_at d
  cascade ← list_at cascade_of (codes "cascade") d
  orphan_removal ← flag (codes "orphanRemoval") d
  Some (record {
    name = name;
    kind = kind;
    target = target;
    side = side;
    cascade = cascade;
    orphan_removal = orphan_removal;
  })

-- a listener or a callback
unfoldable pub listener_of : Data → Option DraftListener
listener_of d = do
  known ← only (codes "name" ∷ codes "events" ∷ []) d
  name ← required as_str (codes "name") d
  events ← required (list_of as_str) (codes "events") d
  Some (record { name = name; events = events })

-- ---- entities

-- the members that an entity of either sort may have
abbrev pub common_members : List (List ℕ)
common_members =
    codes "name" ∷ codes "discriminator" ∷ codes "attributes" ∷ codes "relations" ∷ codes "listeners"
    ∷ codes "callbacks" ∷ codes "excludeDefault"
    ∷ codes "excludeSuper" ∷ []

-- what `dropped` holds is what the history says
abbrev pub root_members : List (List ℕ)
root_members =
    codes "table" ∷ codes "key" ∷ codes "embedded" ∷ codes "generated" ∷ codes "version" ∷ codes "dropped"
    ∷ common_members

-- the members that a subclass may have
abbrev pub subclass_members : List (List ℕ)
subclass_members = codes "extends" ∷ common_members

-- a root: table, key and version (chapter 2.4)
unfoldable pub root_of : Data → Option DraftOrigin
root_of d = do
  known ← only root_members d
  table ← required integer_of (codes "table") d
  key ← required (list_of part_of) (codes "key") d
  embedded ← optional as_str (codes "embedded") d
  generated ← flag (codes "generated") d
  version ← optional version_of (codes "version") d
  Some (DraftOrigin.Root
      (record { table = table; key = key; embedded = embedded; generated = generated; version = version }))

-- a subclass, by its superclass (chapter 2.11)
unfoldable pub subclass_of : Data → Option DraftOrigin
subclass_of d = do
  known ← only subclass_members d
  name ← required as_str (codes "extends") d
  Some (DraftOrigin.Extends name)

-- a class that says `extends` is a subclass, and another one a root
abbrev pub origin_of : Data → Option DraftOrigin
origin_of d = if is_some (get (codes "extends") d) then subclass_of d else root_of d

-- an entity (chapter 2.1)
unfoldable pub entity_of : Data → Option DraftEntity
entity_of d = do
  name ← required as_str (codes "name") d
  discriminator ← optional as_str (codes "discriminator") d
  attributes ← list_at attribute_of (codes "attributes") d
  relations ← list_at relation_of (codes "relations") d
  listeners ← list_at listener_of (codes "listeners") d
  callbacks ← list_at listener_of (codes "callbacks") d
  exclude_default ← flag (codes "excludeDefault") d
  exclude_super ← flag (codes "excludeSuper") d
  origin ← origin_of d
  Some (record {
    name = name;
    origin = origin;
    discriminator = discriminator;
    attributes = attributes;
    relations = relations;
    listeners = listeners;
    callbacks = callbacks;
    exclude_default = exclude_default;
    exclude_super = exclude_super;
  })

-- the whole description; what `functions` holds is not asked
unfoldable pub draft_of : Data → Option Draft
draft_of d = do
  known ← only (codes "revision" ∷ codes "listeners" ∷ codes "entities" ∷ codes "functions" ∷ []) d
  revision ← required integer_of (codes "revision") d
  listeners ← list_at listener_of (codes "listeners") d
  entities ← required (list_of entity_of) (codes "entities") d
  Some (record { revision = revision; listeners = listeners; entities = entities })
