-- What is registered under names, and the world that it makes (Jakarta Persistence 3.1, chapters
-- 3.5 listeners and callbacks, 3.8 converters).
use Rattle.std.specs.Prelude.{◌≡◌, ◌↔◌, ⊤, ℕ, Bool, true, List, [], ◌∷◌, ◌++◌, find, is_some, if◌then◌else◌, Option}
use Rattle.std.specs.Prelude.{Some, None, option_map, Result, Ok, Err}
use Rattle.jpa_value.specs.declared.value.Value.{Value}
use Rattle.jpa_value.specs.declared.refusal.Argument.{Argument}
use Rattle.jpa_value.specs.declared.refusal.PersistenceFault.{PersistenceFault}
use Rattle.jpa_value.specs.declared.refusal.Cause.{Cause}
use Rattle.jpa_model.specs.Chains.{same_name}
use Rattle.jpa_model.specs.WellFormed.{are_distinct_by}
use Rattle.jpa_model.specs.declared.unit.PersistenceUnit.{PersistenceUnit}
use Rattle.jpql_trees.specs.declared.tree.Language.{Language}
use Rattle.jpa_behaviour.specs.declared.Image.{Image}
use Rattle.jpa_behaviour.specs.declared.Heard.{Heard}
use Rattle.jpa_behaviour.specs.Behaviour.{World, is_convertible, sees_representable, answers_representable}

-- ---- names

-- what was added under a name
pub record Known (T : Type 0) : Type 0 where
  pub name : List ℕ
  pub what : T

-- whether something stands under this name
abbrev pub has_name : {T : Type 0} → List ℕ → Known T → Bool
has_name name k = same_name k.name name

-- what stands under a name, in a list in which no name stands twice
abbrev pub known_as : {T : Type 0} → List ℕ → List (Known T) → Option T
known_as name known = option_map (λ k. k.what) (find (has_name name) known)

-- a name that is there already is refused
abbrev pub added : {T : Type 0} → List ℕ → T → List (Known T) → Result (List (Known T)) Cause
added name what known =
    if is_some (known_as name known) then Err (Cause.IllegalArgument Argument.Second)
    else Ok (known ++ (record { name = name; what = what }) ∷ [])

-- an addition that was answered so left this list: what it was to leave, or, where it was refused,
-- what was there; a name that is not refused is not added for want of memory alone
abbrev pub Adds : {T : Type 0} → Result ⊤ Cause → List T → List T → Result (List T) Cause → Type 0
Adds (Ok done) old new wanted = Ok new ≡ wanted
Adds (Err cause) old new (Ok more) = (new ≡ old) × (cause ≡ Cause.OutOfMemory)
Adds (Err cause) old new (Err why) = (new ≡ old) × (cause ≡ why)

-- ---- what is registered

-- listeners (callbacks are among them) and converters are two sorts of name; each list is in the
-- order of adding. Queries are texts of the language
pub record Registered (L C : Type 0) : Type 0 where
  pub listeners : List (Known L)
  pub converters : List (Known C)
  pub language : Language

-- no name of a sort stands twice
abbrev pub AreNamedOnce : {L C : Type 0} → Registered L C → Type 0
AreNamedOnce r = (are_distinct_by (λ k. k.name) r.listeners ≡ true)
    × (are_distinct_by (λ k. k.name) r.converters ≡ true)

-- ---- what listeners and converters mean

-- heard: what a listener answers to an image. column: what a converter makes of an attribute's
-- value for its column, attribute: what it makes of a column's value; each is nothing where it
-- throws
pub record Meaning (L C : Type 0) : Type 0 where
  pub heard : L → Image → Heard
  pub column : C → Value → Option Value
  pub attribute : C → Value → Option Value

-- the two directions of each converter are inverse
abbrev pub ConvertersAreInverse : {L C : Type 0} → Meaning L C → Type 0
ConvertersAreInverse {L} {C} f =
    (c : C) (v d : Value) → is_convertible v ≡ true → is_convertible d ≡ true →
    (f.column c v ≡ Some d) ↔ (f.attribute c d ≡ Some v)

-- each listener answers values of the program when it sees such
abbrev pub ListenersAnswerRepresentable : {L C : Type 0} → Meaning L C → Type 0
ListenersAnswerRepresentable {L} {C} f =
    (l : L) (image : Image) → sees_representable image ≡ true → answers_representable (f.heard l image) ≡ true

-- ---- the world of a registry

-- an answer of a converter that is null, too long or no value of the program counts as thrown
abbrev pub counted : Option Value → Option Value
counted None = None
counted (Some v) = if is_convertible v then Some v else None

module _ {L C : Type 0} (f : Meaning L C) where
  -- under an unknown name nobody is heard, and no converter answers
  abbrev pub heard_by : Option L → Image → Heard
  heard_by None image = Heard.Assign []
  heard_by (Some l) image = f.heard l image

  -- what a converter makes of an attribute's value; without one it throws
  abbrev pub column_by : Option C → Value → Option Value
  column_by None v = None
  column_by (Some c) v = counted (f.column c v)

  -- what a converter makes of a column's value; without one it throws
  abbrev pub attribute_by : Option C → Value → Option Value
  attribute_by None v = None
  attribute_by (Some c) v = counted (f.attribute c v)

  -- what the listener of a name answers
  abbrev pub heard_in : Registered L C → List ℕ → Image → Heard
  heard_in r name = heard_by (known_as name r.listeners)

  -- what the converter of a name makes of an attribute's value
  abbrev pub column_in : Registered L C → List ℕ → Value → Option Value
  column_in r name = column_by (known_as name r.converters)

  -- what the converter of a name makes of a column's value
  abbrev pub attribute_in : Registered L C → List ℕ → Value → Option Value
  attribute_in r name = attribute_by (known_as name r.converters)

  -- the entities, with what is registered
  abbrev pub world_of : PersistenceUnit → Registered L C → World
  world_of m r = record {
    model = m;
    heard = heard_in r;
    column = column_in r;
    attribute = attribute_in r;
    language = r.language;
  }

-- ---- the answers of a registry

-- an answer where the name is known, else IllegalArgument(name)
abbrev pub if_known : {T A : Type 0} → Option T → Result A Cause → Result A Cause
if_known None answer = Err (Cause.IllegalArgument Argument.Name)
if_known (Some what) answer = answer

-- a converter's value, or Persistence(converter) where it threw
abbrev pub or_thrown : Option Value → Result Value Cause
or_thrown None = Err (Cause.Persistence PersistenceFault.Converter)
or_thrown (Some v) = Ok v
