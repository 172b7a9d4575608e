-- The law of statements that ask one object by its key: others of the set decide nothing, nor do its own pairs.
use Rattle.std.specs.Prelude.{◌≡◌, ◌<◌, ℕ, List, Some, length, option_map}
use Rattle.jpa_value.specs.declared.value.Identity.{Identity}
use Rattle.jpa_model.specs.declared.unit.PersistenceUnit.{PersistenceUnit}
use Rattle.jpa_model.specs.Chains.{root_of}
use Rattle.jpa_stored.specs.objects.Sets.{StoredSet, stored_at}
use Rattle.jpql_trees.specs.declared.typed.typed.TypedSelect.{TypedSelect}
use Rattle.jpql_meaning.specs.declared.eval.datum.Datum.{Datum}
use Rattle.jpql_meaning.specs.plan.Selection.{selected}
use Rattle.jpql_run.specs.Keys.{CanBeLookedUp}
use Rattle.jpa_questions.specs.by_key.ByKey.{key_of, only, pairless}

-- the identity's table is that of a class's hierarchy (chapter 2.11)
abbrev pub IsRooted : PersistenceUnit → Identity → Type 0
IsRooted m id = (class : ℕ) × (class < length m.entities) × ((root_of m class).table ≡ id.table)

-- neither other objects nor pairs decide anything, and the identity has a class's table
pub record KeyLaws (m : PersistenceUnit) (ps : List Datum) (q : TypedSelect) (id : Identity) : Type 0 where
  -- over a set it gives what it gives over the one object with the identity, as its own row tells it, or over none:
  -- the same rows, or the same Overflow
  pub alone : (s : StoredSet) → CanBeLookedUp m s →
      selected m s ps q ≡ selected m (only id (option_map (pairless m) (stored_at s id))) ps q
  -- its table is that of a class's hierarchy
  pub rooted : IsRooted m id

-- these laws hold of each statement that asks one object by its key
abbrev pub LawsOfKeys : Type 0
LawsOfKeys = (m : PersistenceUnit) (ps : List Datum) (q : TypedSelect) (id : Identity) → key_of m ps q ≡ Some id →
    KeyLaws m ps q id
