-- What an UPDATE sets in a set, by identities (chapter 4.11).
use Rattle.std.specs.Prelude.{ℕ, List, map, Option}
use Rattle.jpa_value.specs.declared.value.Identity.{Identity}
use Rattle.jpa_model.specs.declared.unit.Member.{Member}
use Rattle.jpa_model.specs.declared.unit.PersistenceUnit.{PersistenceUnit}
use Rattle.jpa_stored.specs.objects.Sets.{StoredSet}
use Rattle.jpql_trees.specs.declared.typed.typed.TypedAssignment.{TypedAssignment}
use Rattle.jpql_trees.specs.declared.typed.typed.TypedCondition.{TypedCondition}
use Rattle.jpql_meaning.specs.declared.eval.datum.Datum.{Datum}
use Rattle.jpql_meaning.specs.eval.Answers.{Answer, under}
use Rattle.jpql_meaning.specs.plan.Paths.{Entry}
use Rattle.jpql_bulk.specs.bulk.Changes.{found_by_update}

-- an object by its identity, with what its members are set to
abbrev pub by_identity : Entry × List (Member × Datum) → Identity × List (Member × Datum)
by_identity c = ((c.0).0, c.1)

-- the objects that an UPDATE concerns, by their identities, with what it sets
abbrev pub set_by_update : PersistenceUnit → StoredSet → List Datum → ℕ → List TypedAssignment → Option TypedCondition →
    Answer (List (Identity × List (Member × Datum)))
set_by_update m s parameters class all where_ =
    under (map by_identity) (found_by_update m s parameters class all where_)
