-- How the meaning of UPDATE and DELETE goes on from what they find.
use Rattle.std.proofs.Common.{◌≡◌, refl, ap, sym, ℕ, Bool, false, List, map, length, Option, Ok}
use Rattle.std.specs.Prelude.{Result}
use Rattle.std.proofs.lemmas.List.{length-map}
use Rattle.jpa_value.specs.declared.refusal.Cause.{Cause}
use Rattle.jpa_model.specs.declared.unit.PersistenceUnit.{PersistenceUnit}
use Rattle.jpa_stored.specs.objects.Sets.{StoredSet, put_all, without}
use Rattle.jpql_trees.specs.declared.typed.typed.TypedAssignment.{TypedAssignment}
use Rattle.jpql_trees.specs.declared.typed.typed.TypedCondition.{TypedCondition}
use Rattle.jpql_meaning.specs.declared.eval.datum.Datum.{Datum}
use Rattle.jpql_meaning.specs.eval.Answers.{Answer, gives, overflows, under}
use Rattle.jpql_meaning.specs.plan.Bulk.{Changed, Throws, ◌and_then◌, each_assigned, or_refuse, concerned, updated, deleted}
use Rattle.jpql_meaning.specs.plan.Paths.{Entry}
use Rattle.jpql_bulk.specs.bulk.Changes.{found_by_update, found_by_delete}

module _ (m : PersistenceUnit) (s : StoredSet) (ps : List Datum) where
  pub of_update : (throws : Throws) (class : ℕ) (all : List TypedAssignment) (where_ : Option TypedCondition)
      → updated m s ps throws class all where_
      ≡ or_refuse (found_by_update m s ps class all where_) (λ given. each_assigned m throws given and_then λ entries. Ok (put_all entries s, length entries))
  of_update throws class all where_ = refl

  counted : StoredSet → ℕ → Result Changed Cause
  counted set n = Ok (set, n)

  taken_out : (found : Answer (List Entry))
      → or_refuse {B = Changed} found (λ es. Ok (without (map (λ (e : Entry). e.0) es) s, length es))
      ≡ or_refuse {B = Changed} (under (map (λ (e : Entry). e.0)) found) (λ ids. Ok (without ids s, length ids))
  unfolding counted
  taken_out overflows = refl
  taken_out (gives es) =
      let changed = λ (n : ℕ). counted (without (map (λ (e : Entry). e.0) es) s) n in ap changed (sym (length-map es (λ (e : Entry). e.0)))

  pub of_delete : (class : ℕ) (is_named : Bool) (where_ : Option TypedCondition)
      → deleted m s ps class is_named where_ ≡ or_refuse (found_by_delete m s ps class is_named where_) (λ ids. Ok (without ids s, length ids))
  of_delete class is_named where_ = taken_out (concerned m s ps class is_named (λ t. false) where_)
