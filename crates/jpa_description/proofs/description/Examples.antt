-- Worked examples of well-formed and ill-formed descriptions.
use Rattle.std.specs.Prelude.{ℕ, List, replicate, pos, true, false, [], ◌∷◌, ◌≡◌, Some, None, codes, refl}
use Rattle.jpa_value.specs.declared.value.Kind.{Kind}
use Rattle.jpa_model.specs.Chains.{member_of, class_of}
use Rattle.jpa_model.specs.WellFormed.{is_well_formed, has_entities, is_name, has_roots, has_key, has_numbers, is_number, has_members, has_relations, has_orphans, has_events, hears}
use Rattle.jpa_model.specs.Described.{unit_of}
use Rattle.jpa_model.specs.declared.unit.Part.{Part}
use Rattle.jpa_model.specs.declared.unit.Cascades.{Cascades}
use Rattle.jpa_model.specs.declared.unit.Entity.{Entity}
use Rattle.jpa_model.specs.declared.unit.Origin.{Origin}
use Rattle.jpa_model.specs.declared.unit.Member.{Member}
use Rattle.jpa_model.specs.declared.unit.PersistenceUnit.{PersistenceUnit}
use Rattle.jpa_model.specs.declared.unit.Side.{Side}
use Rattle.jpa_model.specs.declared.draft.Cascade.{Cascade}
use Rattle.jpa_model.specs.declared.draft.Draft.{Draft}
use Rattle.jpa_model.specs.declared.draft.DraftAttribute.{DraftAttribute}
use Rattle.jpa_model.specs.declared.draft.DraftEntity.{DraftEntity}
use Rattle.jpa_model.specs.declared.draft.DraftListener.{DraftListener}
use Rattle.jpa_model.specs.declared.draft.DraftOrigin.{DraftOrigin}
use Rattle.jpa_model.specs.declared.draft.DraftRelation.{DraftRelation}
use Rattle.jpa_model.specs.declared.draft.DraftRoot.{DraftRoot}
use Rattle.jpa_model.specs.declared.draft.DraftSide.{DraftSide}
use Rattle.jpa_model.specs.declared.draft.RelationKind.{RelationKind}

-- persons and their orders
abbrev id : Part
id = record { name = codes "id"; kind = Kind.Int }

abbrev person_root : DraftRoot
person_root = record { table = pos 1; key = id ∷ []; embedded = None; generated = true; version = Some (record { name = codes "version"; column = pos 1 }) }

abbrev name_attribute : DraftAttribute
name_attribute = record { name = codes "name"; kind = Kind.Text; column = pos 2; required = false; converter = None }

abbrev orders : DraftRelation
orders = record { name = codes "orders"; kind = RelationKind.OneToMany; target = codes "Order"; side = DraftSide.MappedBy (codes "person"); cascade = Cascade.All ∷ []; orphan_removal = true }

abbrev person : DraftEntity
person = record { name = codes "Person"; origin = DraftOrigin.Root person_root; discriminator = None; attributes = name_attribute ∷ []; relations = orders ∷ []; listeners = []; callbacks = []; exclude_default = false; exclude_super = false }

abbrev number : Part
number = record { name = codes "number"; kind = Kind.Int }

abbrev order_root : DraftRoot
order_root = record { table = pos 2; key = number ∷ []; embedded = None; generated = false; version = None }

abbrev amount : DraftAttribute
amount = record { name = codes "amount"; kind = Kind.Int; column = pos 1; required = false; converter = None }

abbrev owner : DraftRelation
owner = record { name = codes "person"; kind = RelationKind.ManyToOne; target = codes "Person"; side = DraftSide.Column (record { column = pos 2; required = false }); cascade = []; orphan_removal = false }

abbrev order : DraftEntity
order = record { name = codes "Order"; origin = DraftOrigin.Root order_root; discriminator = None; attributes = amount ∷ []; relations = owner ∷ []; listeners = []; callbacks = []; exclude_default = false; exclude_super = false }

abbrev persons : Draft
persons = record { revision = pos 1; listeners = []; entities = person ∷ order ∷ [] }

persons_are_well_formed : is_well_formed persons ≡ true
persons_are_well_formed = refl

-- the unit that they describe
abbrev all_cascades : Cascades
all_cascades = record { persist = true; merge = true; remove = true; refresh = true; detach = true }

abbrev no_cascades : Cascades
no_cascades = record { persist = false; merge = false; remove = false; refresh = false; detach = false }

abbrev person_entity : Entity
person_entity = record {
  name = codes "Person";
  origin = Origin.Root (record { table = 1; key = id ∷ []; embedded = None; generated = true; version = Some (record { name = codes "version"; column = 1 }) });
  discriminator = codes "Person";
  attributes = record { name = codes "name"; kind = Kind.Text; column = 2; required = false; converter = None } ∷ [];
  relations = record { name = codes "orders"; side = Side.OneToMany 0; target = 1; cascade = all_cascades; orphan_removal = true } ∷ [];
  listeners = [];
  callbacks = [];
  exclude_default = false;
  exclude_super = false;
}

abbrev order_entity : Entity
order_entity = record {
  name = codes "Order";
  origin = Origin.Root (record { table = 2; key = number ∷ []; embedded = None; generated = false; version = None });
  discriminator = codes "Order";
  attributes = record { name = codes "amount"; kind = Kind.Int; column = 1; required = false; converter = None } ∷ [];
  relations = record { name = codes "person"; side = Side.ManyToOne (record { column = 2; required = false }); target = 0; cascade = no_cascades; orphan_removal = false } ∷ [];
  listeners = [];
  callbacks = [];
  exclude_default = false;
  exclude_super = false;
}

abbrev persons_unit : PersistenceUnit
persons_unit = record { revision = 1; listeners = []; entities = person_entity ∷ order_entity ∷ [] }

persons_describe : unit_of persons ≡ persons_unit
persons_describe = refl

order_is_found : class_of persons_unit (codes "Order") ≡ Some 1
order_is_found = refl

name_is_found : member_of persons_unit 0 (codes "name") ≡ Some (Member.Attribute 0)
name_is_found = refl

-- no revision but the first two
second_revision : is_well_formed (record persons { revision = pos 2 }) ≡ true
second_revision = refl

later_revision : is_well_formed (record persons { revision = pos 3 }) ≡ false
later_revision = refl

abbrev of_two : DraftEntity → DraftEntity → Draft
of_two first second = record { revision = pos 1; listeners = []; entities = first ∷ second ∷ [] }

-- 1. names
no_entities : has_entities (record persons { entities = [] }) ≡ false
no_entities = refl

one_name : has_entities (of_two person (record order { name = codes "Person" })) ≡ false
one_name = refl

longest_name : is_name (replicate 64 97) ≡ true
longest_name = refl

too_long_name : is_name (replicate 65 97) ≡ false
too_long_name = refl

digit_first : is_name (codes "1st") ≡ false
digit_first = refl

underscore : is_name (codes "_1") ≡ true
underscore = refl

no_letter : is_name (codes "a-b") ≡ false
no_letter = refl

ill_named_converter : has_entities (of_two person (record order { attributes = record amount { converter = Some (codes "a b") } ∷ [] })) ≡ false
ill_named_converter = refl

-- 2. superclasses and keys
unknown_superclass : has_roots (of_two person (record order { origin = DraftOrigin.Extends (codes "Nobody") })) ≡ false
unknown_superclass = refl

cycle : has_roots (of_two (record person { origin = DraftOrigin.Extends (codes "Order") }) (record order { origin = DraftOrigin.Extends (codes "Person") })) ≡ false
cycle = refl

no_part : has_key (record order_root { key = [] }) ≡ false
no_part = refl

parts_not_embedded : has_key (record order_root { key = number ∷ id ∷ [] }) ≡ false
parts_not_embedded = refl

parts_embedded : has_key (record order_root { key = number ∷ id ∷ []; embedded = Some (codes "key") }) ≡ true
parts_embedded = refl

one_part_twice : has_key (record order_root { key = id ∷ id ∷ []; embedded = Some (codes "key") }) ≡ false
one_part_twice = refl

generated_text : has_key (record person_root { key = record id { kind = Kind.Text } ∷ [] }) ≡ false
generated_text = refl

-- 3. tables, columns and discriminators
one_table : has_numbers (of_two person (record order { origin = DraftOrigin.Root (record order_root { table = pos 1 }) })) ≡ false
one_table = refl

number_0 : is_number (pos 0) ≡ false
number_0 = refl

greatest_number : is_number (pos 1000000) ≡ true
greatest_number = refl

too_great_number : is_number (pos 1000001) ≡ false
too_great_number = refl

one_column : has_numbers (of_two person (record order { attributes = record amount { column = pos 2 } ∷ [] })) ≡ false
one_column = refl

-- the same column stands in two classes of one hierarchy
column_of_superclass : has_numbers (of_two person (record order { origin = DraftOrigin.Extends (codes "Person") })) ≡ false
column_of_superclass = refl

one_discriminator : has_numbers (of_two person (record order { origin = DraftOrigin.Extends (codes "Person"); attributes = []; relations = []; discriminator = Some (codes "Person") })) ≡ false
one_discriminator = refl

-- 4. members
name_of_superclass : has_members (of_two person (record order { origin = DraftOrigin.Extends (codes "Person"); attributes = record amount { name = codes "name" } ∷ [] })) ≡ false
name_of_superclass = refl

name_of_version : has_members (of_two (record person { attributes = record name_attribute { name = codes "version" } ∷ [] }) order) ≡ false
name_of_version = refl

-- 5. relations
unknown_target : has_relations (of_two (record person { relations = [] }) (record order { relations = record owner { target = codes "Nobody" } ∷ [] })) ≡ false
unknown_target = refl

kept_by_an_attribute : has_relations (of_two (record person { relations = record orders { side = DraftSide.MappedBy (codes "amount") } ∷ [] }) order) ≡ false
kept_by_an_attribute = refl

not_opposite : has_relations (of_two (record person { relations = record orders { kind = RelationKind.OneToOne } ∷ [] }) order) ≡ false
not_opposite = refl

in_a_column : has_relations (of_two (record person { relations = record orders { side = owner.side } ∷ [] }) order) ≡ false
in_a_column = refl

two_inverses : has_relations (of_two (record person { relations = orders ∷ record orders { name = codes "purchases" } ∷ [] }) order) ≡ false
two_inverses = refl

-- 6. orphans
orphans_of_many : has_orphans (of_two person (record order { relations = record owner { orphan_removal = true } ∷ [] })) ≡ false
orphans_of_many = refl

-- 7. events
abbrev hearing : List (List ℕ) → DraftListener
hearing events = record { name = codes "audit"; events = events }

unknown_event : hears (hearing (codes "PostMerge" ∷ [])) ≡ false
unknown_event = refl

event_twice : hears (hearing (codes "PostLoad" ∷ codes "PostLoad" ∷ [])) ≡ false
event_twice = refl

two_callbacks : has_events (of_two person (record order { callbacks = hearing (codes "PostLoad" ∷ []) ∷ hearing (codes "PostLoad" ∷ []) ∷ [] })) ≡ false
two_callbacks = refl

two_listeners : has_events (of_two person (record order { listeners = hearing (codes "PostLoad" ∷ []) ∷ hearing (codes "PostLoad" ∷ []) ∷ [] })) ≡ true
two_listeners = refl
