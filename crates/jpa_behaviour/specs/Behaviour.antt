-- What the entities and their stored functions mean, for every definition above (Jakarta
-- Persistence 3.1, chapters 3.5 listeners and callbacks, 3.8 converters).
use Rattle.std.specs.Prelude.{◌≡◌, ◌↔◌, ℕ, Bool, true, not, nat_le, length, ◌&&◌, List, [], Option, Some, None}
use Rattle.std.specs.List.{list_all}
use Rattle.jpa_value.specs.declared.value.Value.{Value}
use Rattle.jpa_value.specs.Limits.{most_bytes}
use Rattle.jpa_value.specs.Value.{is_null, is_representable}
use Rattle.jpa_model.specs.declared.unit.PersistenceUnit.{PersistenceUnit}
use Rattle.jpql_trees.specs.declared.tree.Language.{Language}
use Rattle.jpa_behaviour.specs.declared.Image.{Image}
use Rattle.jpa_behaviour.specs.declared.Named.{Named}
use Rattle.jpa_behaviour.specs.declared.Heard.{Heard}

-- heard: what the listener or callback of a name answers to an image. column: what the converter of
-- a name makes of an attribute's value for its column, attribute: what it makes of a column's
-- value; each is nothing where it throws. language: that of the queries (chapter 4)
pub record World : Type 0 where
  pub model : PersistenceUnit
  pub heard : List ℕ → Image → Heard
  pub column : List ℕ → Value → Option Value
  pub attribute : List ℕ → Value → Option Value
  pub language : Language

-- ---- what a world of registered functions keeps

-- at most 65,535 bytes
abbrev pub is_short : Value → Bool
is_short Value.Null = true
is_short (Value.Int n) = true
is_short (Value.Text bytes) = nat_le (length bytes) most_bytes
is_short (Value.Bytes bytes) = nat_le (length bytes) most_bytes

-- what passes through a converter, in either direction: a value of the program that is not null and
-- not too long
abbrev pub is_convertible : Value → Bool
is_convertible v = not (is_null v) && (is_short v && is_representable v)

-- an answer of a converter that is null, too long or no value of the program counts as thrown
abbrev pub AnswersConvertible : World → Type 0
AnswersConvertible world =
    ((name : List ℕ) (v c : Value) → world.column name v ≡ Some c → is_convertible c ≡ true)
    × ((name : List ℕ) (c v : Value) → world.attribute name c ≡ Some v → is_convertible v ≡ true)

-- the two directions of each converter are inverse
abbrev pub AreInverse : World → Type 0
AreInverse world =
    (name : List ℕ) (v c : Value) → is_convertible v ≡ true → is_convertible c ≡ true →
    (world.column name v ≡ Some c) ↔ (world.attribute name c ≡ Some v)

-- ---- listeners answer values of the program when they see such

-- whether a name stands with a value of the program
abbrev pub names_representable : Named → Bool
names_representable n = is_representable n.value

-- whether a listener sees values of the program alone
abbrev pub sees_representable : Image → Bool
sees_representable image = list_all names_representable image.values

-- whether a listener assigns values of the program alone
abbrev pub answers_representable : Heard → Bool
answers_representable (Heard.Assign assignments) = list_all names_representable assignments
answers_representable (Heard.Throw text) = true

-- a listener that sees values of the program alone assigns such alone
abbrev pub HearsRepresentable : World → Type 0
HearsRepresentable world = (name : List ℕ) (image : Image) → sees_representable image ≡ true →
    answers_representable (world.heard name image) ≡ true

-- all three
pub record IsRegular (world : World) : Type 0 where
  pub convertible : AnswersConvertible world
  pub inverse : AreInverse world
  pub heard : HearsRepresentable world

-- the world of a unit that names no stored function: nobody is heard, no converter answers, and
-- queries are those of the profile
abbrev pub without_functions : PersistenceUnit → World
without_functions m =
    record {
      model = m;
      heard = λ name image. Heard.Assign [];
      column = λ name v. None;
      attribute = λ name v. None;
      language = Language.Profile;
    }
