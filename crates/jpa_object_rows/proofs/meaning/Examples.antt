-- Worked examples: the rows of a person, and those of an object with a pair.
use Rattle.std.specs.Prelude.{codes, ◌≡◌, refl, ℕ, pos, false, true, List, [], ◌∷◌, Some, None}
use Rattle.std.specs.Str.{is_utf8, chars}
use Rattle.jpa_value.specs.declared.value.Value.{Value}
use Rattle.jpa_value.specs.declared.value.Kind.{Kind}
use Rattle.jpa_value.specs.declared.value.Identity.{Identity}
use Rattle.jpa_model.specs.declared.unit.Entity.{Entity}
use Rattle.jpa_model.specs.declared.unit.Part.{Part}
use Rattle.jpa_model.specs.declared.unit.Origin.{Origin}
use Rattle.jpa_model.specs.declared.unit.Relation.{Relation}
use Rattle.jpa_model.specs.declared.unit.Side.{Side}
use Rattle.jpa_model.specs.Chains.{no_cascade}
use Rattle.jpa_behaviour.specs.Behaviour.{World, without_functions}
use Rattle.jpa_stored.specs.declared.objects.stored.Stored.{Stored}
use Rattle.jpa_rows.specs.declared.rows.row.Content.{Content}
use Rattle.jpa_rows.specs.declared.rows.row.Field.{Field}
use Rattle.jpa_rows.specs.rows.Rows.{Rows}
use Rattle.jpa_rows.specs.rows.Tables.{schema_of}
use Rattle.jpa_object_rows.specs.meaning.Raw.{is_id_of}
use Rattle.jpa_object_rows.specs.meaning.Objects.{main_row, number_id, number_row, object_rows, with_object, without_pairs, without_object}
use Rattle.jpa_object_rows.specs.meaning.Sets.{set_in, numbers_in, targets_in, rows_of}

abbrev text_field : ℕ → List ℕ → Field
text_field column text = record { column = column; content = Content.Value (Value.Text text) }

abbrev int_field : ℕ → ℕ → Field
int_field column n = record { column = column; content = Content.Value (Value.Int (pos n)) }

abbrev identity : ℕ → ℕ → Identity
identity table n = record { table = table; key = Value.Int (pos n) ∷ [] }

-- ---- a person is made, persisted and committed (first-run)

abbrev person : Entity
person = record {
  name = codes "Person";
  origin = Origin.Root (record { table = 1; key = record { name = codes "id"; kind = Kind.Int } ∷ []; embedded = None; generated = true; version = Some (record { name = codes "version"; column = 1 }) });
  discriminator = codes "Person";
  attributes = record { name = codes "name"; kind = Kind.Text; column = 2; required = false; converter = None } ∷ [];
  relations = [];
  listeners = [];
  callbacks = [];
  exclude_default = false;
  exclude_super = false;
}

abbrev persons : World
persons = without_functions (record { revision = 1; listeners = []; entities = person ∷ [] })

abbrev ada : Stored
ada = record { class = 0; version = Some (pos 0); values = Value.Text (codes "Ada") ∷ []; owned = [] }

person_row : main_row persons ada ≡ text_field 0 (codes "Person") ∷ int_field 1 0 ∷ text_field 2 (codes "Ada") ∷ []
person_row = refl

-- a person without a name has no field for it
nameless_row : main_row persons (record { class = 0; version = Some (pos 0); values = Value.Null ∷ []; owned = [] }) ≡ text_field 0 (codes "Person") ∷ int_field 1 0 ∷ []
nameless_row = refl

-- with the next number of its hierarchy
abbrev person_rows : Rows
person_rows =
    (record { table = 0; key = Value.Int (pos 1) ∷ [] }, int_field 0 2 ∷ [])
    ∷ (identity 1 1, text_field 0 (codes "Person") ∷ int_field 1 0 ∷ text_field 2 (codes "Ada") ∷ [])
    ∷ []

person_put : with_object persons (identity 1 1) ada ((number_id 1, number_row 2) ∷ []) ≡ person_rows
person_put = refl

persons_written : rows_of persons ((identity 1 1, ada) ∷ []) (2 ∷ []) ≡ person_rows
persons_written = refl

persons_read : set_in persons person_rows ≡ (identity 1 1, ada) ∷ []
unfolding is_utf8 chars lib.Utf8.encode
persons_read = refl

number_read : numbers_in persons.model person_rows ≡ 2 ∷ []
number_read = refl

person_dropped : without_object persons (identity 1 1) ada person_rows ≡ (number_id 1, number_row 2) ∷ []
person_dropped = refl

person_named : is_id_of (schema_of persons.model) (identity 1 1) ≡ true
person_named = refl

-- a key of another kind names no row, nor does one in a table of another unit
not_named : is_id_of (schema_of persons.model) (record { table = 1; key = Value.Text (codes "1") ∷ [] }) ≡ false
not_named = refl

other_table : is_id_of (schema_of persons.model) (identity 2 1) ≡ false
other_table = refl

-- ---- an embedded key of two parts, a link and a pair (embedded-keys-and-unique-link)

abbrev entity : ℕ → ℕ → List Part → List Relation → Entity
entity name table key relations = record {
  name = name ∷ [];
  origin = Origin.Root (record { table = table; key = key; embedded = None; generated = false; version = None });
  discriminator = name ∷ [];
  attributes = [];
  relations = relations;
  listeners = [];
  callbacks = [];
  exclude_default = false;
  exclude_super = false;
}

abbrev relation : List ℕ → Side → ℕ → Relation
relation name side target = record { name = name; side = side; target = target; cascade = no_cascade; orphan_removal = false }

-- the column of the link is below that of no other, and the join table is below the owner's
abbrev pairing : World
pairing = without_functions (record {
  revision = 1;
  listeners = [];
  entities =
      entity 65 7 (record { name = codes "id"; kind = Kind.Int } ∷ [])
      (relation (codes "b") (Side.OneToOne (record { column = 1; required = false })) 1 ∷ relation (codes "bs") (Side.ManyToMany 3) 1 ∷ [])
      ∷ entity 66 2 (record { name = codes "x"; kind = Kind.Int } ∷ record { name = codes "y"; kind = Kind.Text } ∷ []) []
      ∷ [];
})

abbrev target : ℕ → Identity
target n = record { table = 2; key = Value.Int (pos n) ∷ Value.Text (97 ∷ []) ∷ [] }

abbrev pair : ℕ → Identity
pair n = record { table = 3; key = Value.Int (pos 1) ∷ Value.Int (pos n) ∷ Value.Text (97 ∷ []) ∷ [] }

abbrev paired : Stored
paired = record { class = 0; version = None; values = []; owned = (target 2 ∷ []) ∷ (target 2 ∷ target 4 ∷ []) ∷ [] }

abbrev paired_rows : Rows
paired_rows =
    (pair 2, int_field 0 1 ∷ [])
    ∷ (pair 4, int_field 0 1 ∷ [])
    ∷ (identity 7 1, text_field 0 (65 ∷ []) ∷ record { column = 1; content = Content.Reference (Value.Int (pos 2) ∷ Value.Text (97 ∷ []) ∷ []) } ∷ [])
    ∷ []

pairs_written : object_rows pairing (identity 7 1) paired ≡ paired_rows
pairs_written = refl

targets_read : targets_in pairing.model paired_rows (identity 7 1) 3 1 ≡ target 2 ∷ target 4 ∷ []
targets_read = refl

-- another owner has none of them
no_target : targets_in pairing.model paired_rows (identity 7 2) 3 1 ≡ []
no_target = refl

pairs_left : without_pairs pairing (identity 7 1) paired paired_rows ≡ (identity 7 1, main_row pairing paired) ∷ []
pairs_left = refl

pairs_read : set_in pairing paired_rows ≡ (identity 7 1, paired) ∷ []
unfolding is_utf8 chars lib.Utf8.encode
pairs_read = refl
