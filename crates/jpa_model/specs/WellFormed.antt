-- When a description gives a metamodel: revision 1 or 2 and seven conditions on its declarations.
use Rattle.std.specs.Prelude.{ℕ, ◌+◌, ℤ, pos, Bool, true, false, not, ◌&&◌, ◌||◌, ◌==◌, nat_le, int_le, List, [], ◌∷◌}
use Rattle.std.specs.Prelude.{length, Option, Some, None, is_some, count_by, sum_by, find, IsTrue}
use Rattle.std.specs.List.{list_all, list_any, flat_map}
use Rattle.std.specs.Ordering.{int_eq}
use Rattle.jpa_value.specs.Limits.{most_bytes}
use Rattle.jpa_value.specs.declared.value.Kind.{Kind}
use Rattle.jpa_model.specs.Chains.{same_name}
use Rattle.jpa_model.specs.Drafted.{entity_at, classes, place_of, chain, chains, first_of, hierarchy, declared_by}
use Rattle.jpa_model.specs.Drafted.{member_names, columns, tables, discriminator, relations_of, event_of}
use Rattle.jpa_model.specs.declared.unit.Part.{Part}
use Rattle.jpa_model.specs.declared.draft.Draft.{Draft}
use Rattle.jpa_model.specs.declared.draft.DraftAttribute.{DraftAttribute}
use Rattle.jpa_model.specs.declared.draft.DraftEntity.{DraftEntity}
use Rattle.jpa_model.specs.declared.draft.DraftListener.{DraftListener}
use Rattle.jpa_model.specs.declared.draft.DraftOrigin.{DraftOrigin}
use Rattle.jpa_model.specs.declared.draft.DraftRelation.{DraftRelation}
use Rattle.jpa_model.specs.declared.draft.DraftRoot.{DraftRoot}
use Rattle.jpa_model.specs.declared.draft.DraftSide.{DraftSide}
use Rattle.jpa_model.specs.declared.draft.RelationKind.{RelationKind}

-- no item has the name of a later one
abbrev pub are_distinct_by : {A : Type 0} → (A → List ℕ) → List A → Bool
are_distinct_by name [] = true
are_distinct_by name (x ∷ xs) = not (list_any (λ y. same_name (name x) (name y)) xs) && are_distinct_by name xs

-- no name stands twice
abbrev pub are_distinct_names : List (List ℕ) → Bool
are_distinct_names = are_distinct_by (λ name. name)

-- no number stands twice
abbrev pub are_distinct_numbers : List ℤ → Bool
are_distinct_numbers [] = true
are_distinct_numbers (x ∷ xs) = not (list_any (int_eq x) xs) && are_distinct_numbers xs

-- a condition on what may be absent
abbrev pub if_some : {A : Type 0} → (A → Bool) → Option A → Bool
if_some p None = true
if_some p (Some a) = p a

-- 1. There are 1 to 64 entities, with distinct names, and every name has the form of one: a letter
-- of ASCII or `_`, then letters, digits or `_`, at most 64 bytes.
abbrev pub is_letter : ℕ → Bool
is_letter c = (nat_le 65 c && nat_le c 90) || (nat_le 97 c && nat_le c 122) || c == 95

-- a letter of ASCII, `_`, or a digit
abbrev pub is_letter_or_digit : ℕ → Bool
is_letter_or_digit c = is_letter c || (nat_le 48 c && nat_le c 57)

-- whether a text begins with a letter of ASCII or `_`
abbrev pub begins_with_letter : List ℕ → Bool
begins_with_letter [] = false
begins_with_letter (c ∷ cs) = is_letter c

-- whether a text has the form of a name
abbrev pub is_name : List ℕ → Bool
is_name text = begins_with_letter text && nat_le (length text) 64 && list_all is_letter_or_digit text

-- the names of a root's key parts, embedded id and version have the form of one
abbrev pub is_root_named : DraftOrigin → Bool
is_root_named (DraftOrigin.Root root) =
    list_all (λ part. is_name part.name) root.key && if_some is_name root.embedded
    && if_some (λ v. is_name v.name) root.version
is_root_named (DraftOrigin.Extends name) = true

-- the names of an attribute and of its converter have the form of one
abbrev pub is_attribute_named : DraftAttribute → Bool
is_attribute_named a = is_name a.name && if_some is_name a.converter

-- the names of listeners have the form of one
abbrev pub are_listeners_named : List DraftListener → Bool
are_listeners_named = list_all (λ l. is_name l.name)

-- all names that an entity declares have the form of one
abbrev pub is_entity_named : DraftEntity → Bool
is_entity_named e =
    is_name e.name && is_root_named e.origin && list_all is_attribute_named e.attributes
    && list_all (λ r. is_name r.name) e.relations
    && are_listeners_named e.listeners && are_listeners_named e.callbacks

-- the first condition
abbrev pub has_entities : Draft → Bool
has_entities d =
    nat_le 1 (length d.entities) && nat_le (length d.entities) 64 && are_listeners_named d.listeners
    && list_all is_entity_named d.entities && are_distinct_by (λ e. e.name) d.entities

-- 2. `extends` names an entity and has no cycle: the first class of each chain is a root. A root
-- has 1 to 4 key parts of distinct names, more than one only in an embedded id; a generated key is
-- one integer.
abbrev pub is_root : DraftOrigin → Bool
is_root (DraftOrigin.Root root) = true
is_root (DraftOrigin.Extends name) = false

-- a superclass that is named is an entity
abbrev pub is_superclass_named : Draft → DraftEntity → Bool
is_superclass_named d e = names e.origin
  where
    names : DraftOrigin → Bool
    names (DraftOrigin.Root root) = true
    names (DraftOrigin.Extends name) = is_some (place_of d name)

-- a chain begins with a root
abbrev pub begins_with_root : Draft → List ℕ → Bool
begins_with_root d chain = is_root (entity_at d (first_of chain)).origin

-- whether a key is one integer
abbrev pub is_one_integer : List Part → Bool
is_one_integer [] = false
is_one_integer (part ∷ []) = is_integer part.kind
  where
    is_integer : Kind → Bool
    is_integer Kind.Int = true
    is_integer Kind.Text = false
    is_integer Kind.Bytes = false
is_one_integer (part ∷ other ∷ parts) = false

-- a root has 1 to 4 key parts, as the second condition asks (chapter 2.4)
abbrev pub has_key : DraftRoot → Bool
has_key root =
    nat_le 1 (length root.key) && nat_le (length root.key) 4 && are_distinct_by (λ part. part.name) root.key
    && (nat_le (length root.key) 1 || is_some root.embedded) && (not root.generated || is_one_integer root.key)

-- an entity that is a root has such a key
abbrev pub has_key_if_root : DraftEntity → Bool
has_key_if_root e = has e.origin
  where
    has : DraftOrigin → Bool
    has (DraftOrigin.Root root) = has_key root
    has (DraftOrigin.Extends name) = true

-- the second condition
abbrev pub has_roots : Draft → Bool
has_roots d =
    list_all (is_superclass_named d) d.entities && list_all (begins_with_root d) (chains d)
    && list_all has_key_if_root d.entities

-- 3. Tables of roots and join tables are distinct and lie from 1 to 1,000,000; so do the columns
-- within a hierarchy. Discriminators are distinct within a hierarchy and have at most 65,535 bytes.
abbrev pub is_number : ℤ → Bool
is_number n = int_le (pos 1) n && int_le n (pos 1000000)

-- numbers lie from 1 to 1,000,000, each once
abbrev pub are_numbers : List ℤ → Bool
are_numbers ns = list_all is_number ns && are_distinct_numbers ns

-- the columns of classes are such numbers, and their discriminators are distinct
abbrev pub is_stored_apart : Draft → List ℕ → Bool
is_stored_apart d places =
    are_numbers (declared_by columns d places) && are_distinct_by (λ class. discriminator (entity_at d class)) places

-- a discriminator has at most as many bytes as a text may have
abbrev pub is_discriminator_short : DraftEntity → Bool
is_discriminator_short e = nat_le (length (discriminator e)) most_bytes

-- the third condition
abbrev pub has_numbers : Draft → Bool
has_numbers d =
    list_all is_discriminator_short d.entities && are_numbers (flat_map tables d.entities)
    && list_all (λ root. is_stored_apart d (hierarchy d root)) (classes d)

-- 4. The names along a chain are distinct, and at most 64 attributes and relations stand along it.
abbrev pub member_count : DraftEntity → ℕ
member_count e = length e.attributes + length e.relations

-- what the fourth condition asks of a chain
abbrev pub is_distinct_along : Draft → List ℕ → Bool
is_distinct_along d chain = nat_le (sum_by (λ class. member_count (entity_at d class)) chain) 64
    && are_distinct_names (declared_by member_names d chain)

-- the fourth condition
abbrev pub has_members : Draft → Bool
has_members d = list_all (is_distinct_along d) (chains d)

-- 5. A target is an entity, and the kind of a relation goes with where it is kept. What keeps an
-- inverse relation is an owning relation along the target's chain, of the opposite kind, whose
-- target is the declaring entity; and it keeps no other one.
abbrev pub goes_with : RelationKind → DraftSide → Bool
goes_with RelationKind.ManyToOne (DraftSide.Column c) = true
goes_with RelationKind.ManyToOne (DraftSide.JoinTable table) = false
goes_with RelationKind.ManyToOne (DraftSide.MappedBy name) = false
goes_with RelationKind.OneToMany (DraftSide.Column c) = false
goes_with RelationKind.OneToMany (DraftSide.JoinTable table) = false
goes_with RelationKind.OneToMany (DraftSide.MappedBy name) = true
goes_with RelationKind.OneToOne (DraftSide.Column c) = true
goes_with RelationKind.OneToOne (DraftSide.JoinTable table) = false
goes_with RelationKind.OneToOne (DraftSide.MappedBy name) = true
goes_with RelationKind.ManyToMany (DraftSide.Column c) = false
goes_with RelationKind.ManyToMany (DraftSide.JoinTable table) = true
goes_with RelationKind.ManyToMany (DraftSide.MappedBy name) = true

-- whether a relation is kept in a column or a join table, not by its owner
abbrev pub is_owning : DraftSide → Bool
is_owning (DraftSide.Column c) = true
is_owning (DraftSide.JoinTable table) = true
is_owning (DraftSide.MappedBy name) = false

-- the kind of the inverse side, and then that of the owning side
abbrev pub is_opposite : RelationKind → RelationKind → Bool
is_opposite RelationKind.ManyToOne k = false
is_opposite RelationKind.OneToMany RelationKind.ManyToOne = true
is_opposite RelationKind.OneToMany RelationKind.OneToMany = false
is_opposite RelationKind.OneToMany RelationKind.OneToOne = false
is_opposite RelationKind.OneToMany RelationKind.ManyToMany = false
is_opposite RelationKind.OneToOne RelationKind.ManyToOne = false
is_opposite RelationKind.OneToOne RelationKind.OneToMany = false
is_opposite RelationKind.OneToOne RelationKind.OneToOne = true
is_opposite RelationKind.OneToOne RelationKind.ManyToMany = false
is_opposite RelationKind.ManyToMany RelationKind.ManyToOne = false
is_opposite RelationKind.ManyToMany RelationKind.OneToMany = false
is_opposite RelationKind.ManyToMany RelationKind.OneToOne = false
is_opposite RelationKind.ManyToMany RelationKind.ManyToMany = true

-- whether a relation is the owning side of an inverse one of this kind that the entity declares
abbrev pub keeps : DraftEntity → RelationKind → DraftRelation → Bool
keeps declaring kind owner =
    is_owning owner.side && is_opposite kind owner.kind && same_name owner.target declaring.name

-- whether there is something, and it passes a test
abbrev pub is_some_that : {A : Type 0} → (A → Bool) → Option A → Bool
is_some_that p None = false
is_some_that p (Some a) = p a

-- an inverse relation has its owning side; any other keeps itself
abbrev pub is_kept : Draft → DraftEntity → DraftRelation → Bool
is_kept d declaring r = by r.side
  where
    by : DraftSide → Bool
    by (DraftSide.Column c) = true
    by (DraftSide.JoinTable table) = true
    by (DraftSide.MappedBy name) =
        is_some_that (λ target. is_some_that (keeps declaring r.kind)
        (find (λ o. same_name o.name name) (relations_of d target))) (place_of d r.target)

-- a relation has a target, goes with its kind, and is kept (chapter 2.9)
abbrev pub has_target_and_owner : Draft → DraftEntity → DraftRelation → Bool
has_target_and_owner d declaring r = is_some (place_of d r.target) && goes_with r.kind r.side && is_kept d declaring r

-- whether a relation is an inverse side of the owner that this class declares
abbrev pub is_inverse_of : Draft → ℕ → DraftRelation → DraftRelation → Bool
is_inverse_of d class owner r = by r.side
  where
    by : DraftSide → Bool
    by (DraftSide.Column c) = false
    by (DraftSide.JoinTable table) = false
    by (DraftSide.MappedBy name) =
        same_name name owner.name && is_some_that (λ target. list_any (λ c. c == class) (chain d target))
        (place_of d r.target)

-- a relation has a target, which declares at most one inverse side of it
abbrev pub has_one_inverse : Draft → ℕ → DraftRelation → Bool
has_one_inverse d class owner =
    is_some_that (λ target. nat_le (count_by (is_inverse_of d class owner) (entity_at d target).relations) 1)
    (place_of d owner.target)

-- the fifth condition
abbrev pub has_relations : Draft → Bool
has_relations d =
    list_all (λ e. list_all (has_target_and_owner d e) e.relations) d.entities
    && list_all (λ class. list_all (has_one_inverse d class) (entity_at d class).relations) (classes d)

-- 6. Orphans are removed along relations of one object to others alone.
abbrev pub is_of_one : RelationKind → Bool
is_of_one RelationKind.ManyToOne = false
is_of_one RelationKind.OneToMany = true
is_of_one RelationKind.OneToOne = true
is_of_one RelationKind.ManyToMany = false

-- a relation with orphan removal is of one object
abbrev pub may_remove_orphans : DraftRelation → Bool
may_remove_orphans r = not r.orphan_removal || is_of_one r.kind

-- the sixth condition
abbrev pub has_orphans : Draft → Bool
has_orphans d = list_all (λ e. list_all may_remove_orphans e.relations) d.entities

-- 7. Events are the seven names, distinct within an entry; among the callbacks of one class an
-- event is named at most once.
abbrev pub is_event : List ℕ → Bool
is_event name = is_some (event_of name)

-- the events of a listener are among the seven names, each once
abbrev pub hears : DraftListener → Bool
hears l = list_all is_event l.events && are_distinct_names l.events

-- what the seventh condition asks of an entity
abbrev pub has_events_of : DraftEntity → Bool
has_events_of e =
    list_all hears e.listeners && list_all hears e.callbacks
    && are_distinct_names (flat_map (λ l. l.events) e.callbacks)

-- the seventh condition
abbrev pub has_events : Draft → Bool
has_events d = list_all hears d.listeners && list_all has_events_of d.entities

-- conditions 2 to 7
abbrev pub stands_together : Draft → Bool
stands_together d = has_roots d
    && (has_members d && (has_numbers d && (has_relations d && (has_orphans d && has_events d))))

-- a description is of revision 1 or 2
abbrev pub has_revision : Draft → Bool
has_revision d = int_eq d.revision (pos 1) || int_eq d.revision (pos 2)

-- a description is well formed: its revision and the seven conditions hold
abbrev pub is_well_formed : Draft → Bool
is_well_formed d = has_revision d && has_entities d && stands_together d

-- a description is well formed
abbrev pub IsWellFormed : Draft → Type 0
IsWellFormed d = IsTrue (is_well_formed d)
