-- How the meaning of UPDATE and DELETE goes on from what they find.
use Rattle.std.specs.Prelude.{◌≡◌, ℕ, Bool, List, length, Option, Ok}
use Rattle.jpa_model.specs.declared.unit.PersistenceUnit.{PersistenceUnit}
use Rattle.jpa_stored.specs.objects.Sets.{StoredSet, put_all, without}
use Rattle.jpql_trees.specs.declared.typed.typed.TypedAssignment.{TypedAssignment}
use Rattle.jpql_trees.specs.declared.typed.typed.TypedCondition.{TypedCondition}
use Rattle.jpql_meaning.specs.declared.eval.datum.Datum.{Datum}
use Rattle.jpql_meaning.specs.plan.Bulk.{Throws, ◌and_then◌, each_assigned, or_refuse, updated, deleted}
use Rattle.jpql_bulk.specs.bulk.Changes.{found_by_update, found_by_delete}

-- UPDATE and DELETE (chapter 4.11), over a set, with parameters.
pub record BulkLaws (m : PersistenceUnit) (s : StoredSet) (ps : List Datum) : Type 0 where
  -- all is computed by the old set, then each object is assigned, in rising order, and put
  pub update : (throws : Throws) (class : ℕ) (all : List TypedAssignment) (where_ : Option TypedCondition)
      → updated m s ps throws class all where_
      ≡ or_refuse (found_by_update m s ps class all where_)
      (λ given. each_assigned m throws given and_then λ entries. Ok (put_all entries s, length entries))
  -- those that are found are taken out
  pub delete : (class : ℕ) (is_named : Bool) (where_ : Option TypedCondition)
      → deleted m s ps class is_named where_ ≡ or_refuse (found_by_delete m s ps class is_named where_)
      (λ ids. Ok (without ids s, length ids))
