-- What an UPDATE sets, as the code has it, and what the statements find.
use Rattle.std.specs.Prelude.{ℕ, Bool, true, false, List, map, Option}
use Rattle.std.specs.List.{list_any}
use Rattle.jpa_value.specs.declared.value.Identity.{Identity}
use Rattle.jpa_model.specs.declared.unit.Member.{Member}
use Rattle.jpa_model.specs.declared.unit.PersistenceUnit.{PersistenceUnit}
use Rattle.jpa_stored.specs.objects.Sets.{StoredSet}
use Rattle.jpql_trees.specs.declared.typed.typed.TypedAssignment.{TypedAssignment}
use Rattle.jpql_trees.specs.declared.typed.typed.TypedCondition.{TypedCondition}
use Rattle.jpql_meaning.specs.declared.eval.datum.Datum.{Datum}
use Rattle.jpql_meaning.specs.declared.eval.seen.Seen.{Seen}
use Rattle.jpql_meaning.specs.eval.Answers.{Answer, ◌>>=◌, under, every}
use Rattle.jpql_meaning.specs.eval.Seen.{seen}
use Rattle.jpql_meaning.specs.plan.Bulk as bulk
use Rattle.jpql_meaning.specs.plan.Paths.{Entry}
use Rattle.jpql_run.specs.Objects.{entry}
use Rattle.jpql_bulk.specs.declared.bulk.update.Change.{Change}

-- a member with what it is set to
abbrev pub member_in : Member × Seen → Member × Datum
member_in a = (a.0, seen a.1)

-- members with what they are set to
abbrev pub members_in : List (Member × Seen) → List (Member × Datum)
members_in all = map member_in all

-- an object with what its members are set to
abbrev pub change_in : Change → Entry × List (Member × Datum)
change_in c = (entry c.object, members_in c.members.items)

module _ (m : PersistenceUnit) (s : StoredSet) (parameters : List Datum) where
  -- the objects that an UPDATE concerns, with what it sets
  abbrev pub found_by_update : ℕ → List TypedAssignment → Option TypedCondition →
      Answer (List (Entry × List (Member × Datum)))
  found_by_update class all where_ =
      bulk.concerned m s parameters class true (λ t. list_any (bulk.assignment_drops m s parameters t) all) where_
      >>= λ found. every (map (bulk.assignments_for m s parameters all) found)

  -- the identities of those that a DELETE removes
  abbrev pub found_by_delete : ℕ → Bool → Option TypedCondition → Answer (List Identity)
  found_by_delete class is_named where_ =
      under (map (λ (e : Entry). e.0)) (bulk.concerned m s parameters class is_named (λ t. false) where_)
