-- Which unit the program serves, and what a store that was served holds.
use Rattle.std.specs.Prelude.{◌≡◌, ◌⊎◌, ◌&&◌, ℕ, Bool, List, [], Option, Some, None, Result, Ok, Err, IsErrAnd, true}
use Rattle.std.specs.Prelude.{codes, if◌then◌else◌}
use Rattle.std.specs.Str.{bytes_eq}
use Rattle.sqlite_trees.specs.declared.store.Store.{Ghosts}
use Rattle.sqlite.specs.Held.{Held}
use Rattle.jpa_value.specs.declared.refusal.Cause.{Cause}
use Rattle.jpa_value.specs.declared.refusal.MappingFault.{MappingFault}
use Rattle.jpa_description.specs.declared.history.history.History.{History}
use Rattle.jpa_description.specs.history.History.{unchanged}
use Rattle.jpa_behaviour.specs.Served.{world_of_unit}
use Rattle.jpa_behaviour.specs.declared.served_unit.ServedUnit.{ServedUnit}
use Rattle.jpa_stored.specs.objects.Sets.{StoredSet}
use Rattle.jpa_json.specs.readers.Outcome.{and_then}
use Rattle.jpa_json.specs.mapping.MappingOf.{mapping_of}
use Rattle.jpa_json.specs.declared.functions.behaviour.ProgramFunctions.{ProgramFunctions}
use Rattle.jpa_json.specs.declared.functions.make.Listener.{Listener}
use Rattle.jpa_json.specs.declared.functions.make.Converter.{Converter}
use Rattle.jpa_json.specs.functions.Functions.{meaning}
use Rattle.jpa_json.specs.functions.FunctionsIn.{functions_in}
use Rattle.jpa_json.specs.functions.Known.{names_are_known}
use Rattle.jpa_json.specs.functions.Sorts.{registered}
use Rattle.jpa_opening.specs.migration.Migration.{defaults_pass}
use Rattle.jpql_trees.specs.declared.tree.Language.{Language}
use Rattle.jpa_program.specs.Opening.{HoldsCells}
use Rattle.jpa_program.specs.Persons.{persons}

-- a persistence unit with the program's own functions
abbrev pub ProgramUnit : Type 0
ProgramUnit = ServedUnit ProgramFunctions Listener Converter

-- the unit that the bytes of a mapping describe, in a language of queries, with what has changed of
-- it since revision 1, or the first that is wrong: with its entities, then with its functions
abbrev pub unit_in : Language → List ℕ → Result (ProgramUnit × History) Cause
unit_in language bytes =
    and_then (mapping_of bytes) (λ mapping.
    and_then (functions_in bytes) (λ functions.
    and_then (registered language functions)
    (λ registry. Ok (record { metamodel = mapping.metamodel; registry = registry }, mapping.history))))

-- the unit that is served without a mapping: the program's own persons with their orders, and no
-- function
abbrev pub own_unit : Language → ProgramUnit
own_unit l = record { metamodel = persons; registry = record { listeners = []; converters = []; language = l } }

-- the unit of a mapping's bytes, or the first that is wrong with them, and of no bytes the
-- program's own
abbrev pub unit_from : Language → Option (List ℕ) → Result (ProgramUnit × History) Cause
unit_from language (Some bytes) = unit_in language bytes
unit_from language None = Ok (own_unit language, unchanged)

-- the language that a name says, which is the profile's where none is said
abbrev pub language_named : Option (List ℕ) → Language
language_named None = Language.Profile
language_named (Some name) = if bytes_eq name (codes "wide") then Language.Wide else Language.Profile

-- where the unit can't be made the first that is wrong is told, unless memory ran out
abbrev pub RefusesUnit : {T : Type 0} → Language → Option (List ℕ) → Result T Cause → Type 0
RefusesUnit language mapping result = (cause : Cause) → unit_from language mapping ≡ Err cause →
    IsErrAnd result (λ told. (told ≡ Cause.OutOfMemory) ⊎ (told ≡ cause))

-- want of memory, or a fault of the mapping
abbrev pub IsMappingCause : Cause → Type 0
IsMappingCause cause = (cause ≡ Cause.OutOfMemory) ⊎ ((fault : MappingFault) × (cause ≡ Cause.Mapping fault))

-- each function that the unit names is registered, and no converter throws for a default
abbrev pub is_servable : ProgramUnit → History → Bool
is_servable unit history =
    names_are_known unit.registry unit.metamodel && defaults_pass (world_of_unit meaning unit) history

-- the unit can be served
abbrev pub IsServable : ProgramUnit → History → Type 0
IsServable unit history = is_servable unit history ≡ true

-- the unit of these bytes, or of none, can be served
abbrev pub GivesServable : Language → Option (List ℕ) → Type 0
GivesServable language mapping =
    (unit : ProgramUnit) × (history : History) × (unit_from language mapping ≡ Ok (unit, history))
    × IsServable unit history

module _ {S : Type 0} (g : Ghosts S) where
  -- the cells of the unit's tables are those of a set of its objects and of next numbers, and no
  -- others
  abbrev pub HoldsUnit : ProgramUnit → Held S → Type 0
  HoldsUnit unit conn =
      (set : StoredSet) × (numbers : List ℕ) × HoldsCells g (world_of_unit meaning unit) conn set numbers
