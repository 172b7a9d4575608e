-- Worked examples of descriptions: persons and their orders, and some that say nothing.
use Rattle.std.specs.Prelude.{pos, [], ◌∷◌, ◌≡◌, true, false, Some, None, Ok, Err, codes, refl}
use Rattle.std.specs.Str.{is_utf8, chars}
use Rattle.jpa_value.specs.declared.refusal.Cause.{Cause}
use Rattle.jpa_value.specs.declared.refusal.MappingFault.{MappingFault}
use Rattle.jpa_value.specs.declared.value.Kind.{Kind}
use Rattle.jpa_value.specs.declared.value.Value.{Value}
use Rattle.jpa_model.specs.declared.draft.Cascade.{Cascade}
use Rattle.jpa_model.specs.declared.draft.DraftEntity.{DraftEntity}
use Rattle.jpa_model.specs.declared.draft.DraftOrigin.{DraftOrigin}
use Rattle.jpa_model.specs.declared.draft.DraftSide.{DraftSide}
use Rattle.jpa_model.specs.declared.draft.RelationKind.{RelationKind}
use Rattle.serde_json.specs.Data.{Data, null, boolean, number, unsigned, string, array, object, no_items, item, Members, no_members, member}
use Rattle.serde_json.proofs.OnLiterals.{serde_json_on_literals}
use Rattle.jpa_json.specs.readers.JsonOf.{text_data}
use Rattle.jpa_json.specs.readers.Values.{bytes_of}
use Rattle.jpa_json.specs.mapping.DraftOf.{draft_of, entity_of, root_of, subclass_of, part_of, version_of, attribute_of, relation_of, side_of, listener_of}
use Rattle.jpa_json.specs.mapping.HistoryOf.{change_of, class_history_of, history_of}
use Rattle.jpa_json.specs.mapping.MappingOf.{drafts_of, drafts_in}

no_description : drafts_in (codes "{}") ≡ Err (Cause.Mapping MappingFault.Shape)
unfolding drafts_in drafts_of text_data draft_of is_utf8 chars serde_json_on_literals
no_description = refl

no_text : drafts_in (codes "{\"revision\":1") ≡ Err (Cause.Mapping MappingFault.Json)
unfolding drafts_in drafts_of text_data is_utf8 chars serde_json_on_literals
no_text = refl

base_and_sub : drafts_in (codes "{\"revision\":1,\"entities\":[{\"name\":\"Base\",\"table\":5,\"key\":[{\"name\":\"id\",\"type\":\"int\"}]},{\"name\":\"Sub\",\"extends\":\"Base\"}]}") ≡ Ok (record {
  draft = record {
    revision = pos 1;
    listeners = [];
    entities =
        (record {
          name = codes "Base";
          origin = DraftOrigin.Root (record { table = pos 5; key = (record { name = codes "id"; kind = Kind.Int }) ∷ []; embedded = None; generated = false; version = None });
          discriminator = None;
          attributes = [];
          relations = [];
          listeners = [];
          callbacks = [];
          exclude_default = false;
          exclude_super = false;
        })
        ∷ (record {
          name = codes "Sub";
          origin = DraftOrigin.Extends (codes "Base");
          discriminator = None;
          attributes = [];
          relations = [];
          listeners = [];
          callbacks = [];
          exclude_default = false;
          exclude_super = false;
        })
        ∷ [];
  };
  history = record { classes = record { dropped = None; changes = [] } ∷ record { dropped = None; changes = [] } ∷ [] };
})
unfolding drafts_in drafts_of text_data draft_of entity_of root_of subclass_of part_of history_of class_history_of is_utf8 chars serde_json_on_literals
base_and_sub = refl

-- columns are dropped by roots alone
dropped_below : drafts_in (codes "{\"revision\":2,\"entities\":[{\"name\":\"Base\",\"table\":5,\"key\":[{\"name\":\"id\",\"type\":\"int\"}]},{\"name\":\"Sub\",\"extends\":\"Base\",\"dropped\":[1]}]}")
    ≡ Err (Cause.Mapping MappingFault.Shape)
unfolding drafts_in drafts_of text_data draft_of entity_of root_of subclass_of part_of is_utf8 chars serde_json_on_literals
dropped_below = refl

person_data : Data
person_data = object (member (codes "attributes") (array (item (object (member (codes "column") (number (unsigned 2)) (member (codes "name") (string (codes "name")) (member (codes "type") (string (codes "text")) no_members)))) no_items)) (member (codes "generated") (boolean true) (member (codes "key") (array (item (object (member (codes "name") (string (codes "id")) (member (codes "type") (string (codes "int")) no_members))) no_items)) (member (codes "name") (string (codes "Person")) (member (codes "relations") (array (item (object (member (codes "cascade") (array (item (string (codes "ALL")) no_items)) (member (codes "kind") (string (codes "oneToMany")) (member (codes "mappedBy") (string (codes "person")) (member (codes "name") (string (codes "orders")) (member (codes "orphanRemoval") (boolean true) (member (codes "target") (string (codes "Order")) no_members))))))) no_items)) (member (codes "table") (number (unsigned 1)) (member (codes "version") (object (member (codes "column") (number (unsigned 1)) (member (codes "name") (string (codes "version")) no_members))) no_members)))))))

order_data : Data
order_data = object (member (codes "attributes") (array (item (object (member (codes "column") (number (unsigned 1)) (member (codes "name") (string (codes "amount")) (member (codes "type") (string (codes "int")) no_members)))) no_items)) (member (codes "key") (array (item (object (member (codes "name") (string (codes "number")) (member (codes "type") (string (codes "int")) no_members))) no_items)) (member (codes "name") (string (codes "Order")) (member (codes "relations") (array (item (object (member (codes "column") (number (unsigned 2)) (member (codes "kind") (string (codes "manyToOne")) (member (codes "name") (string (codes "person")) (member (codes "target") (string (codes "Person")) no_members))))) no_items)) (member (codes "table") (number (unsigned 2)) no_members)))))

person_draft : DraftEntity
person_draft = record {
  name = codes "Person";
  origin = DraftOrigin.Root (record {
    table = pos 1;
    key = (record { name = codes "id"; kind = Kind.Int }) ∷ [];
    embedded = None;
    generated = true;
    version = Some (record { name = codes "version"; column = pos 1 });
  });
  discriminator = None;
  attributes = (record { name = codes "name"; kind = Kind.Text; column = pos 2; required = false; converter = None }) ∷ [];
  relations = (record {
    name = codes "orders";
    kind = RelationKind.OneToMany;
    target = codes "Order";
    side = DraftSide.MappedBy (codes "person");
    cascade = Cascade.All ∷ [];
    orphan_removal = true;
  }) ∷ [];
  listeners = [];
  callbacks = [];
  exclude_default = false;
  exclude_super = false;
}

order_draft : DraftEntity
order_draft = record {
  name = codes "Order";
  origin = DraftOrigin.Root (record {
    table = pos 2;
    key = (record { name = codes "number"; kind = Kind.Int }) ∷ [];
    embedded = None;
    generated = false;
    version = None;
  });
  discriminator = None;
  attributes = (record { name = codes "amount"; kind = Kind.Int; column = pos 1; required = false; converter = None }) ∷ [];
  relations = (record {
    name = codes "person";
    kind = RelationKind.ManyToOne;
    target = codes "Person";
    side = DraftSide.Column (record { column = pos 2; required = false });
    cascade = [];
    orphan_removal = false;
  }) ∷ [];
  listeners = [];
  callbacks = [];
  exclude_default = false;
  exclude_super = false;
}

persons : entity_of person_data ≡ Some person_draft
unfolding person_data person_draft entity_of root_of part_of version_of attribute_of relation_of side_of
persons = refl

orders : entity_of order_data ≡ Some order_draft
unfolding order_data order_draft entity_of root_of part_of version_of attribute_of relation_of side_of
orders = refl

persons_and_orders : draft_of (object (member (codes "entities") (array (item person_data (item order_data no_items))) (member (codes "revision") (number (unsigned 1)) no_members)))
    ≡ Some (record { revision = pos 1; listeners = []; entities = person_draft ∷ order_draft ∷ [] })
unfolding draft_of person_data person_draft order_data order_draft entity_of root_of part_of version_of attribute_of relation_of side_of
persons_and_orders = refl

listener_data : Members → Data
listener_data more = object (member (codes "events") (array (item (string (codes "PreUpdate")) no_items)) (member (codes "name") (string (codes "log")) more))

one_listener : listener_of (listener_data no_members) ≡ Some (record { name = codes "log"; events = codes "PreUpdate" ∷ [] })
unfolding listener_of listener_data
one_listener = refl

-- another member
other_member : listener_of (listener_data (member (codes "once") (boolean true) no_members)) ≡ None
unfolding listener_of listener_data
other_member = refl

-- a member that lacks
no_events : listener_of (object (member (codes "name") (string (codes "log")) no_members)) ≡ None
unfolding listener_of
no_events = refl

-- two places for one relation
two_sides : side_of (Some (number (unsigned 1))) (Some (number (unsigned 2))) None None ≡ None
unfolding side_of
two_sides = refl

-- `required` beside a join table
required_pairs : side_of None (Some (number (unsigned 2))) None (Some (boolean true)) ≡ None
unfolding side_of
required_pairs = refl

-- ---- what has changed since revision 1

attribute_data : Members → Data
attribute_data more = object (member (codes "column") (number (unsigned 3)) (member (codes "name") (string (codes "hits")) (member (codes "type") (string (codes "int")) more)))

new_attribute : change_of (attribute_data (member (codes "since") (number (unsigned 2)) (member (codes "default") (number (unsigned 0)) no_members)))
    ≡ Some (record { since = Some (pos 2); default = Some (Value.Int (pos 0)); was = None })
unfolding change_of attribute_data
new_attribute = refl

moved_attribute : change_of (attribute_data (member (codes "was") (number (unsigned 2)) no_members)) ≡ Some (record { since = None; default = None; was = Some (pos 2) })
unfolding change_of attribute_data
moved_attribute = refl

kept_attribute : change_of (attribute_data no_members) ≡ Some (record { since = None; default = None; was = None })
unfolding change_of attribute_data
kept_attribute = refl

-- null is a value here, which no type has
null_default : change_of (attribute_data (member (codes "default") null no_members)) ≡ Some (record { since = None; default = Some Value.Null; was = None })
unfolding change_of attribute_data
null_default = refl

-- an object number is no value
object_default : change_of (attribute_data (member (codes "default") (object (member (codes "object") (number (unsigned 1)) no_members)) no_members)) ≡ None
unfolding change_of attribute_data bytes_of
object_default = refl

truth_default : change_of (attribute_data (member (codes "default") (boolean true) no_members)) ≡ None
unfolding change_of attribute_data
truth_default = refl

-- an attribute may say so
attribute_says : attribute_of (attribute_data (member (codes "was") (number (unsigned 2)) no_members))
    ≡ Some (record { name = codes "hits"; kind = Kind.Int; column = pos 3; required = false; converter = None })
unfolding attribute_of attribute_data
attribute_says = refl

dropped_columns : class_history_of (object (member (codes "dropped") (array (item (number (unsigned 1)) no_items)) no_members)) ≡ Some (record { dropped = Some (pos 1 ∷ []); changes = [] })
unfolding class_history_of
dropped_columns = refl
