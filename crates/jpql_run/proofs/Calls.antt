-- Functions and aggregates of values that are computed one by one.
use Rattle.std.proofs.Common.{rules, ◌≡◌, Bool, List, map, ◌∙◌, ap}
use Rattle.std.proofs.lemmas.Simd.{map-map}
use Rattle.jpa_model.specs.declared.unit.PersistenceUnit.{PersistenceUnit}
use Rattle.jpa_stored.specs.objects.Sets.{StoredSet}
use Rattle.jpql_trees.specs.declared.tree.Function.{Function}
use Rattle.jpql_trees.specs.declared.tree.Aggregate.{Aggregate}
use Rattle.jpql_trees.specs.declared.typed.typed.TypedValue.{TypedValue, fold-TypedValue}
use Rattle.jpql_trees.specs.declared.typed.typed.TypedValue.TheVariants as v
use Rattle.jpql_trees.specs.declared.typed.typed.TypedValue.TheFolds as folds
use Rattle.jpql_meaning.specs.declared.eval.datum.Datum.{Datum}
use Rattle.jpql_meaning.specs.eval.Answers.{Answer}
use Rattle.jpql_meaning.specs.plan.Meaning.{Case, alone, call, aggregate, value, value_step}

call_parts : (m : PersistenceUnit) (s : StoredSet) (ps : List Datum) (f : Function) (all : List TypedValue) (at : Case)
    → value m s ps (v.Call f all) at ≡ call f (map (λ a. a at) (map (fold-TypedValue (Case → Answer Datum) (value_step m s ps)) all))
call_parts m s ps f all at = search (rules, folds.the_lemmas)

pub value_of_call : (m : PersistenceUnit) (s : StoredSet) (ps : List Datum) (f : Function) (all : List TypedValue) (at : Case)
    → value m s ps (v.Call f all) at ≡ call f (map (λ a. value m s ps a at) all)
value_of_call m s ps f all at =
    call_parts m s ps f all at ∙ ap (call f) (map-map (λ (a : Case → Answer Datum). a at) (fold-TypedValue (Case → Answer Datum) (value_step m s ps)) all)

pub value_of_aggregate : (m : PersistenceUnit) (s : StoredSet) (ps : List Datum) (g : Aggregate) (distinct : Bool) (a : TypedValue) (at : Case)
    → value m s ps (v.Aggregate g distinct a) at ≡ aggregate g distinct (map (λ t. value m s ps a (alone t)) at.group)
value_of_aggregate m s ps g distinct a at = search (rules, folds.the_lemmas)
