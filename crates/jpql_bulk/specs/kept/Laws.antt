-- What an UPDATE and a DELETE (chapter 4.11) keep: the set that they make is one that a store can
-- hold, where it is sound.
use Rattle.std.specs.Prelude.{◌≡◌, ℕ, Bool, true, List, Option, Ok}
use Rattle.jpa_behaviour.specs.Behaviour.{World, AnswersConvertible}
use Rattle.jpa_stored.specs.objects.Sets.{StoredSet, IsSound}
use Rattle.jpa_rows.specs.rows.Cells.{CanBeHeld, all_representable}
use Rattle.jpql_trees.specs.declared.tree.Language.{Language}
use Rattle.jpql_trees.specs.declared.tree.Query.{Query}
use Rattle.jpql_trees.specs.tree.Names.{Text}
use Rattle.jpql_types.specs.declared.sort.Sort.{Sort}
use Rattle.jpql_trees.specs.declared.typed.typed.Typed.{Typed}
use Rattle.jpql_trees.specs.declared.typed.typed.TypedAssignment.{TypedAssignment}
use Rattle.jpql_trees.specs.declared.typed.typed.TypedCondition.{TypedCondition}
use Rattle.jpql_types.specs.Statements.{checked}
use Rattle.jpql_meaning.specs.declared.eval.datum.Datum.{Datum}
use Rattle.jpql_meaning.specs.plan.Bulk.{updated, deleted}
use Rattle.jpql_bulk.specs.kept.Fits.{are_of, throws_in, AreInherited}

-- A statement of a language that was checked for parameters of these sorts, with data of these sorts. A store can
-- hold the set. The unit's classes inherit, and what a converter answers can stand in a column.
pub record IsReady (world : World) (s : StoredSet) (numbers : List ℕ) (q : Query) (sorts : List (Text × Sort))
    (data_ : List Datum) (typed : Typed) : Type 0 where
  pub convertible : AnswersConvertible world
  pub inherited : AreInherited world.model
  pub held : CanBeHeld world s numbers
  pub given : are_of world.model sorts data_ ≡ true
  pub language : Language
  pub checked : checked language world.model q sorts ≡ Ok typed

-- UPDATE and DELETE over a set. That values are the program's the types of the code say: a number
-- that it computes has 64 bits, a text that it makes is UTF-8.
pub record KeepLaws (world : World) (s : StoredSet) (numbers : List ℕ) : Type 0 where
  -- values of the right kind stand in the attributes, short ones, for which no converter throws; a
  -- version is a number, a link an identity of its hierarchy; identities, classes and generated
  -- keys are what they were
  pub update : (q : Query) (sorts : List (Text × Sort)) (data_ : List Datum) (class : ℕ) (all : List TypedAssignment)
      (where_ : Option TypedCondition)
      → IsReady world s numbers q sorts data_ (Typed.Update class all where_)
      → (after : StoredSet) (n : ℕ) → updated world.model s data_ (throws_in world) class all where_ ≡ Ok (after, n)
      → all_representable after ≡ true → IsSound world.model after → CanBeHeld world after numbers
  -- a part of the set is left
  pub delete : (data_ : List Datum) (class : ℕ) (is_named : Bool) (where_ : Option TypedCondition) →
      CanBeHeld world s numbers
      → (after : StoredSet) (n : ℕ) → deleted world.model s data_ class is_named where_ ≡ Ok (after, n)
      → IsSound world.model after → CanBeHeld world after numbers
