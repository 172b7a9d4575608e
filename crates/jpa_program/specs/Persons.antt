-- The unit of persons with their orders, as described and as served.
use Rattle.std.specs.Prelude.{codes, pos, true, false, List, [], ◌∷◌, Some, None}
use Rattle.jpa_value.specs.declared.value.Kind.{Kind}
use Rattle.jpa_model.specs.declared.unit.Part.{Part}
use Rattle.jpa_model.specs.declared.draft.Draft.{Draft}
use Rattle.jpa_model.specs.declared.draft.DraftEntity.{DraftEntity}
use Rattle.jpa_model.specs.declared.draft.DraftOrigin.{DraftOrigin}
use Rattle.jpa_model.specs.declared.draft.DraftRoot.{DraftRoot}
use Rattle.jpa_model.specs.declared.draft.DraftAttribute.{DraftAttribute}
use Rattle.jpa_model.specs.declared.draft.DraftRelation.{DraftRelation}
use Rattle.jpa_model.specs.declared.draft.DraftSide.{DraftSide}
use Rattle.jpa_model.specs.declared.draft.RelationKind.{RelationKind}
use Rattle.jpa_model.specs.declared.draft.Cascade.{Cascade}
use Rattle.jpa_model.specs.declared.unit.Cascades.{Cascades}
use Rattle.jpa_model.specs.declared.unit.Side.{Side}
use Rattle.jpa_model.specs.Chains.{no_cascade}
use Rattle.jpa_model.specs.declared.unit.Origin.{Origin}
use Rattle.jpa_model.specs.declared.unit.PersistenceUnit.{PersistenceUnit}

-- the key of a person: one integer, id
abbrev pub key_parts : List Part
key_parts = record { name = codes "id"; kind = Kind.Int } ∷ []

-- the root of persons: table 1, generated keys, a version
abbrev pub person_root : DraftRoot
person_root = record {
  table = pos 1;
  key = key_parts;
  embedded = None;
  generated = true;
  version = Some (record { name = codes "version"; column = pos 1 });
}

-- the attributes of a person: a name
abbrev pub person_attributes : List DraftAttribute
person_attributes = record { name = codes "name"; kind = Kind.Text; column = pos 2; required = false; converter = None }
    ∷ []

-- the orders of a person, which go with the person
abbrev pub orders_draft : DraftRelation
orders_draft =
    record {
      name = codes "orders";
      kind = RelationKind.OneToMany;
      target = codes "Order";
      side = DraftSide.MappedBy (codes "person");
      cascade = Cascade.All ∷ [];
      orphan_removal = true;
    }

-- the entity Person
abbrev pub person_draft : DraftEntity
person_draft =
    record {
      name = codes "Person";
      origin = DraftOrigin.Root person_root;
      discriminator = None;
      attributes = person_attributes;
      relations = orders_draft ∷ [];
      listeners = [];
      callbacks = [];
      exclude_default = false;
      exclude_super = false;
    }

-- the key of an order: one integer, number
abbrev pub order_key : List Part
order_key = record { name = codes "number"; kind = Kind.Int } ∷ []

-- the attributes of an order: an amount
abbrev pub order_attributes : List DraftAttribute
order_attributes = record { name = codes "amount"; kind = Kind.Int; column = pos 1; required = false; converter = None }
    ∷ []

-- the person of an order
abbrev pub person_of_draft : DraftRelation
person_of_draft =
    record {
      name = codes "person";
      kind = RelationKind.ManyToOne;
      target = codes "Person";
      side = DraftSide.Column (record { column = pos 2; required = false });
      cascade = [];
      orphan_removal = false;
    }

-- the entity Order
abbrev pub order_draft : DraftEntity
order_draft =
    record {
      name = codes "Order";
      origin = DraftOrigin.Root
          (record { table = pos 2; key = order_key; embedded = None; generated = false; version = None });
      discriminator = None;
      attributes = order_attributes;
      relations = person_of_draft ∷ [];
      listeners = [];
      callbacks = [];
      exclude_default = false;
      exclude_super = false;
    }

-- the description of persons and orders
abbrev pub persons_draft : Draft
persons_draft = record { revision = pos 1; listeners = []; entities = person_draft ∷ order_draft ∷ [] }

-- all operations are cascaded
abbrev pub all_cascades : Cascades
all_cascades = record { persist = true; merge = true; remove = true; refresh = true; detach = true }

-- persons in table 1, with generated keys, versions and names, and their orders in table 2, which
-- go with them
abbrev pub persons : PersistenceUnit
persons =
    record {
      revision = 1;
      listeners = [];
      entities = record {
        name = codes "Person";
        origin = Origin.Root
            (record {
              table = 1;
              key = key_parts;
              embedded = None;
              generated = true;
              version = Some (record { name = codes "version"; column = 1 });
            });
        discriminator = codes "Person";
        attributes = record { name = codes "name"; kind = Kind.Text; column = 2; required = false; converter = None }
            ∷ [];
        relations = record {
          name = codes "orders";
          side = Side.OneToMany 0;
          target = 1;
          cascade = all_cascades;
          orphan_removal = true;
        } ∷ [];
        listeners = [];
        callbacks = [];
        exclude_default = false;
        exclude_super = false;
      } ∷ record {
        name = codes "Order";
        origin = Origin.Root
            (record { table = 2; key = order_key; embedded = None; generated = false; version = None });
        discriminator = codes "Order";
        attributes = record { name = codes "amount"; kind = Kind.Int; column = 1; required = false; converter = None }
            ∷ [];
        relations = record {
          name = codes "person";
          side = Side.ManyToOne (record { column = 2; required = false });
          target = 0;
          cascade = no_cascade;
          orphan_removal = false;
        } ∷ [];
        listeners = [];
        callbacks = [];
        exclude_default = false;
        exclude_super = false;
      } ∷ [];
    }
