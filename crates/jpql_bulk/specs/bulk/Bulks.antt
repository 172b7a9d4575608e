-- What the parts of UPDATE and DELETE mean, over what they are run over.
use Rattle.std.specs.Prelude.{◌≡◌, ℕ, Bool, not, ◌||◌, List, Option}
use Rattle.std.specs.List.{list_any, filter}
use Rattle.jpa_open.specs.Opened.{now}
use Rattle.jpql_trees.specs.declared.typed.typed.TypedAssignment.{TypedAssignment}
use Rattle.jpql_trees.specs.declared.typed.typed.TypedCondition.{TypedCondition}
use Rattle.jpa_model.specs.declared.unit.Member.{Member}
use Rattle.jpql_meaning.specs.declared.eval.datum.Datum.{Datum}
use Rattle.jpql_meaning.specs.eval.Answers.{Answer}
use Rattle.jpql_meaning.specs.plan.Bulk as bulk
use Rattle.jpql_meaning.specs.plan.Meaning.{alone, kept, drops_any, truth_of_any}
use Rattle.jpql_meaning.specs.plan.Paths.{Entry, Tuple, object_at}
use Rattle.jpql_run.specs.Runs.{any_condition, objects}
use Rattle.jpql_run.specs.declared.run.Run.{Run}

-- the tuple of an object, which has no variable where a DELETE leaves it out
abbrev pub tuple_of : Run → Bool → Entry → Tuple
tuple_of run is_named e = bulk.tuple_of run.metamodel.now (now run.set.now) run.parameters.now is_named e

-- the object of a tuple's first variable
abbrev pub first_object : Tuple → Option Entry
first_object t = object_at t 0

-- whether a tuple has a null step in what is assigned
abbrev pub set_drops : Run → List TypedAssignment → Tuple → Bool
set_drops run all t = list_any (bulk.assignment_drops run.metamodel.now (now run.set.now) run.parameters.now t) all

-- those whose tuple has no null step
abbrev pub there : Run → Bool → List TypedAssignment → Option TypedCondition → List Entry → List Entry
there run is_named all where_ es =
    filter (λ e. not (set_drops run all (tuple_of run is_named e) || drops_any (any_condition run where_)
    (tuple_of run is_named e))) es

-- those for which WHERE is true
abbrev pub kept_of : Run → Bool → Option TypedCondition → List Entry → Answer (List Entry)
kept_of run is_named where_ es =
    kept (λ e. truth_of_any (any_condition run where_) (alone (tuple_of run is_named e))) es

-- the objects that an UPDATE or a DELETE concerns
abbrev pub concerned : Run → ℕ → Bool → List TypedAssignment → Option TypedCondition → Answer (List Entry)
concerned run class is_named all where_ =
    bulk.concerned run.metamodel.now (now run.set.now) run.parameters.now class is_named (set_drops run all) where_

-- WHERE leaves of these objects what it leaves of all of their class, whichever are dropped
abbrev pub LeavesAll : Run → ℕ → Bool → Option TypedCondition → List Entry → Type 0
LeavesAll run class is_named where_ es =
    (drops : Entry → Bool) → kept_of run is_named where_ (filter (λ e. not (drops e)) (objects run class))
    ≡ kept_of run is_named where_ (filter (λ e. not (drops e)) es)

-- what an assignment gives for an object
abbrev pub assignment_datum : Run → Entry → TypedAssignment → Answer (Member × Datum)
assignment_datum run e a = bulk.assignment_datum run.metamodel.now (now run.set.now) run.parameters.now e a

-- an object with what each assignment gives for it
abbrev pub assignments_for : Run → List TypedAssignment → Entry → Answer (Entry × List (Member × Datum))
assignments_for run all e = bulk.assignments_for run.metamodel.now (now run.set.now) run.parameters.now all e
