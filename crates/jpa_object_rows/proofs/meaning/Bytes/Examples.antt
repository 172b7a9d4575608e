-- Worked examples: the cells of a store, the rows that they are, and the set that the rows stand for.
use Rattle.std.specs.Prelude.{codes, ◌≡◌, refl, ℕ, pos, true, false, List, [], ◌∷◌, ◌++◌, Option, Some, None}
use Rattle.std.specs.Str.{is_utf8, chars}
use Rattle.jpa_value.specs.declared.value.Value.{Value}
use Rattle.jpa_value.specs.declared.value.Kind.{Kind}
use Rattle.jpa_value.specs.declared.value.Identity.{Identity}
use Rattle.jpa_model.specs.declared.unit.Cascades.{Cascades}
use Rattle.jpa_model.specs.declared.unit.Entity.{Entity}
use Rattle.jpa_model.specs.declared.unit.Part.{Part}
use Rattle.jpa_model.specs.declared.unit.Origin.{Origin}
use Rattle.jpa_model.specs.declared.unit.Relation.{Relation}
use Rattle.jpa_model.specs.declared.unit.Side.{Side}
use Rattle.jpa_model.specs.Chains.{no_cascade}
use Rattle.jpa_behaviour.specs.Behaviour.{World, without_functions}
use Rattle.jpa_stored.specs.objects.Sets.{StoredSet}
use Rattle.jpa_rows.specs.rows.Cells.{Cell}
use Rattle.jpa_object_rows.specs.meaning.Rows.{Rows}
use Rattle.jpa_object_rows.specs.meaning.Raw.{raw}
use Rattle.jpa_rows.specs.rows.ObjectRows.{rows_of}
use Rattle.jpa_object_rows.specs.meaning.View.{set_of}
use Rattle.jpa_object_rows.specs.meaning.Flat.{cells_of}

-- ---- persons and their orders

abbrev person_entity : List Relation → Entity
person_entity relations = record {
  name = codes "Person";
  origin = Origin.Root (record { table = 1; key = record { name = codes "id"; kind = Kind.Int } ∷ []; embedded = None; generated = true; version = Some (record { name = codes "version"; column = 1 }) });
  discriminator = codes "Person";
  attributes = record { name = codes "name"; kind = Kind.Text; column = 2; required = false; converter = None } ∷ [];
  relations = relations;
  listeners = [];
  callbacks = [];
  exclude_default = false;
  exclude_super = false;
}

abbrev order_entity : Entity
order_entity = record {
  name = codes "Order";
  origin = Origin.Root (record { table = 2; key = record { name = codes "number"; kind = Kind.Int } ∷ []; embedded = None; generated = false; version = None });
  discriminator = codes "Order";
  attributes = record { name = codes "amount"; kind = Kind.Int; column = 1; required = false; converter = None } ∷ [];
  relations = record { name = codes "person"; side = Side.ManyToOne (record { column = 2; required = false }); target = 0; cascade = no_cascade; orphan_removal = false } ∷ [];
  listeners = [];
  callbacks = [];
  exclude_default = false;
  exclude_super = false;
}

abbrev all_cascades : Cascades
all_cascades = record { persist = true; merge = true; remove = true; refresh = true; detach = true }

abbrev orders : Relation
orders = record { name = codes "orders"; side = Side.OneToMany 0; target = 1; cascade = all_cascades; orphan_removal = true }

-- orders of a person are cascaded to
abbrev both_sides : World
both_sides = without_functions (record { revision = 1; listeners = []; entities = person_entity (orders ∷ []) ∷ order_entity ∷ [] })

-- an order alone knows its person
abbrev one_side : World
one_side = without_functions (record { revision = 1; listeners = []; entities = person_entity [] ∷ order_entity ∷ [] })

abbrev int_key : ℕ → List ℕ
int_key n = 1 ∷ 128 ∷ 0 ∷ 0 ∷ 0 ∷ 0 ∷ 0 ∷ 0 ∷ n ∷ []

abbrev identity : ℕ → ℕ → Identity
identity table n = record { table = table; key = Value.Int (pos n) ∷ [] }

-- ---- a person is made, persisted and committed (first-run)

abbrev first_rows : Rows
first_rows =
    (record { table = 0; row = int_key 1 }, (pos 0, int_key 2) ∷ [])
    ∷ (record { table = 1; row = int_key 1 }, (pos 0, 2 ∷ codes "Person") ∷ (pos 1, int_key 0) ∷ (pos 2, 2 ∷ codes "Ada") ∷ [])
    ∷ []

abbrev first_set : StoredSet
first_set = (identity 1 1, record { class = 0; version = Some (pos 0); values = Value.Text (codes "Ada") ∷ []; owned = [] ∷ [] }) ∷ []

abbrev cell : ℕ → List ℕ → ℕ → List ℕ → Cell
cell table row column bytes = record { table = table; row = row; column = pos column; bytes = bytes }

first_cells : cells_of first_rows ≡
    cell 0 (int_key 1) 0 (int_key 2) ∷ cell 1 (int_key 1) 0 (2 ∷ codes "Person") ∷ cell 1 (int_key 1) 1 (int_key 0) ∷ cell 1 (int_key 1) 2 (2 ∷ codes "Ada") ∷ []
first_cells = refl

first_read : set_of both_sides first_rows ≡ first_set
unfolding is_utf8 chars lib.Utf8.encode
first_read = refl

first_written : raw (rows_of both_sides first_set (2 ∷ 1 ∷ [])) ≡ first_rows
first_written = refl

-- ---- an order links to a person without a name (removing-a-referenced-person)

abbrev linked_rows : Rows
linked_rows =
    (record { table = 0; row = int_key 1 }, (pos 0, int_key 2) ∷ [])
    ∷ (record { table = 1; row = int_key 1 }, (pos 0, 2 ∷ codes "Person") ∷ (pos 1, int_key 0) ∷ [])
    ∷ (record { table = 2; row = int_key 10 }, (pos 0, 2 ∷ codes "Order") ∷ (pos 2, 4 ∷ int_key 1) ∷ [])
    ∷ []

abbrev linked_set : StoredSet
linked_set =
    (identity 1 1, record { class = 0; version = Some (pos 0); values = Value.Null ∷ []; owned = [] })
    ∷ (identity 2 10, record { class = 1; version = None; values = Value.Null ∷ []; owned = (identity 1 1 ∷ []) ∷ [] })
    ∷ []

linked_cells : cells_of linked_rows ≡
    cell 0 (int_key 1) 0 (int_key 2) ∷ cell 1 (int_key 1) 0 (2 ∷ codes "Person") ∷ cell 1 (int_key 1) 1 (int_key 0)
    ∷ cell 2 (int_key 10) 0 (2 ∷ codes "Order") ∷ cell 2 (int_key 10) 2 (4 ∷ int_key 1) ∷ []
linked_cells = refl

linked_read : set_of one_side linked_rows ≡ linked_set
linked_read = refl

linked_written : raw (rows_of one_side linked_set (2 ∷ 1 ∷ [])) ≡ linked_rows
linked_written = refl

-- ---- an embedded key of two parts, a link and a pair (embedded-keys-and-unique-link)

abbrev entity : ℕ → ℕ → List Part → Option (List ℕ) → List Relation → Entity
entity name table key embedded relations = record {
  name = name ∷ [];
  origin = Origin.Root (record { table = table; key = key; embedded = embedded; generated = false; version = None });
  discriminator = name ∷ [];
  attributes = [];
  relations = relations;
  listeners = [];
  callbacks = [];
  exclude_default = false;
  exclude_super = false;
}

abbrev relation : List ℕ → Side → ℕ → Relation
relation name side target = record { name = name; side = side; target = target; cascade = no_cascade; orphan_removal = false }

abbrev pairing : World
pairing = without_functions (record {
  revision = 1;
  listeners = [];
  entities =
      entity 65 1 (record { name = codes "id"; kind = Kind.Int } ∷ []) None
      (relation (codes "b") (Side.OneToOne (record { column = 1; required = false })) 1 ∷ relation (codes "bs") (Side.ManyToMany 3) 1 ∷ [])
      ∷ entity 66 2 (record { name = codes "x"; kind = Kind.Int } ∷ record { name = codes "y"; kind = Kind.Text } ∷ []) (Some (codes "k"))
      (relation (codes "a") (Side.OneToOneInverse 0) 0 ∷ relation (codes "owners") (Side.ManyToManyInverse 1) 0 ∷ [])
      ∷ [];
})

abbrev two_parts : List ℕ
two_parts = int_key 2 ++ 2 ∷ 97 ∷ 0 ∷ 0 ∷ []

abbrev paired_rows : Rows
paired_rows =
    (record { table = 1; row = int_key 1 }, (pos 0, 2 ∷ 65 ∷ []) ∷ (pos 1, 4 ∷ two_parts) ∷ [])
    ∷ (record { table = 2; row = two_parts }, (pos 0, 2 ∷ 66 ∷ []) ∷ [])
    ∷ (record { table = 3; row = int_key 1 ++ two_parts }, (pos 0, int_key 1) ∷ [])
    ∷ []

abbrev target : Identity
target = record { table = 2; key = Value.Int (pos 2) ∷ Value.Text (97 ∷ []) ∷ [] }

abbrev paired_set : StoredSet
paired_set =
    (identity 1 1, record { class = 0; version = None; values = []; owned = (target ∷ []) ∷ (target ∷ []) ∷ [] })
    ∷ (target, record { class = 1; version = None; values = []; owned = [] ∷ [] ∷ [] })
    ∷ []

paired_cells : cells_of paired_rows ≡
    cell 1 (int_key 1) 0 (2 ∷ 65 ∷ []) ∷ cell 1 (int_key 1) 1 (4 ∷ two_parts) ∷ cell 2 two_parts 0 (2 ∷ 66 ∷ []) ∷ cell 3 (int_key 1 ++ two_parts) 0 (int_key 1) ∷ []
paired_cells = refl

paired_read : set_of pairing paired_rows ≡ paired_set
unfolding is_utf8 chars lib.Utf8.encode
paired_read = refl

paired_written : raw (rows_of pairing paired_set (1 ∷ 1 ∷ [])) ≡ paired_rows
paired_written = refl

-- a pair without its owner's row is nobody's
alone : set_of pairing ((record { table = 3; row = int_key 1 ++ two_parts }, (pos 0, int_key 1) ∷ []) ∷ []) ≡ []
alone = refl

-- a link whose bytes spell no key of the target's kinds makes its row unread
misspelled : set_of pairing ((record { table = 1; row = int_key 1 }, (pos 0, 2 ∷ 65 ∷ []) ∷ (pos 1, 4 ∷ int_key 2) ∷ []) ∷ []) ≡ []
misspelled = refl
