use Rattle.std.proofs.Common.{subst, ap, sym, ◌∙◌, map}
use Rattle.jpa_open.specs.Opened.{now}
use Rattle.jpql_trees.specs.declared.typed.typed.TypedValue.TheVariants as v
use Rattle.jpql_meaning.specs.plan.Meaning.{Case, value, call}
use Rattle.jpql_meaning.specs.eval.Finds.{Finds}
use Rattle.jpql_meaning.specs.eval.Seen.{seen}
use Rattle.jpql_run.proofs.Calls.{value_of_call, value_of_aggregate}
use Rattle.jpql_run.proofs.values.+value.Goals as goal

pub value-returns-in-Call : goal.value-returns-in-Call
value-returns-in-Call t c =
    let m = c.args.run.now.metamodel.now in
    let s = now c.args.run.now.set.now in
    let ps = c.args.run.now.parameters.now in
    let at : Case = record { tuple = c.args.tuple.now; group = c.args.group.now } in
    subst (Finds seen c.call.result)
    (ap (λ all. call c.in-Call.function (map (λ v. value m s ps v at) all)) c.as_slice.ensures
    ∙ sym (value_of_call m s ps c.in-Call.function c.in-Call.all at)
    ∙ ap (λ v. value m s ps v at) (sym c.in-Call.is))
    c.call.ensures

pub value-returns-in-Aggregate : goal.value-returns-in-Aggregate
value-returns-in-Aggregate t c =
    let m = c.args.run.now.metamodel.now in
    let s = now c.args.run.now.set.now in
    let ps = c.args.run.now.parameters.now in
    let at : Case = record { tuple = c.args.tuple.now; group = c.args.group.now } in
    subst (Finds seen c.over_group.result)
    (ap (λ a. value m s ps (v.Aggregate c.in-Aggregate.aggregate c.in-Aggregate.is_distinct a) at) c.get-in-Aggregate.ensures
    ∙ ap (λ v. value m s ps v at) (sym c.in-Aggregate.is))
    (subst (Finds seen c.over_group.result) (sym (value_of_aggregate m s ps c.in-Aggregate.aggregate c.in-Aggregate.is_distinct c.get-in-Aggregate.result.now at)) c.over_group.ensures)
