use Rattle.std.proofs.Common.{rules, arith, ap, sym, subst, ◌∙◌, ◌≡◌, length}
use Rattle.std.proofs.lemmas.Grind.{common_steps}
use Rattle.jpql_trees.specs.declared.typed.typed.TypedBlock.{TypedBlock}
use Rattle.jpql_trees.specs.declared.typed.typed.TypedCondition.{TypedCondition}
use Rattle.jpql_trees.specs.declared.typed.typed.TypedCondition.TheVariants as is
use Rattle.jpql_meaning.specs.eval.Finds.{Fails}
use Rattle.jpql_meaning.specs.plan.Meaning.{alone}
use Rattle.jpql_run.specs.Ready.{IsReadied}
use Rattle.jpql_run.specs.Runs as runs
use Rattle.jpql_run.proofs.Readied.{made_or, made_and, made_not, tells_plain, or_left_fails, or_right_fails, and_left_fails, and_right_fails, not_fails}
use Rattle.jpql_run.proofs.ready.+ready_for.Goals as goal

pub returns-in_ok-new-in-Or-2 : goal.returns-in_ok-new-in-Or-2
returns-in_ok-new-in-Or-2 t c =
    made_or c.args.run.now c.args.condition.now c.get.result.now c.get-in-Or.result.now c.in-Or.left c.in-Or.right (length c.args.tuple.now)
    c.in_ok-left-in-Or.left c.in_ok-right-in-Or.right c.in_ok-new-in-Or.field-0 c.in_ok-new-in-Or-2.field-0
    c.in-Or.is c.get.ensures c.get-in-Or.ensures c.in_ok-left-in-Or.ensures c.in_ok-right-in-Or.ensures c.in_ok-new-in-Or.ensures c.in_ok-new-in-Or-2.ensures

pub returns-in_ok-new-in-And-2 : goal.returns-in_ok-new-in-And-2
returns-in_ok-new-in-And-2 t c =
    made_and c.args.run.now c.args.condition.now c.get-in-And.result.now c.get-in-And-2.result.now c.in-And.left c.in-And.right (length c.args.tuple.now)
    c.in_ok-left-in-And.left c.in_ok-right-in-And.right c.in_ok-new-in-And.field-0 c.in_ok-new-in-And-2.field-0
    c.in-And.is c.get-in-And.ensures c.get-in-And-2.ensures c.in_ok-left-in-And.ensures c.in_ok-right-in-And.ensures c.in_ok-new-in-And.ensures c.in_ok-new-in-And-2.ensures

pub returns-in_ok-new-in-Not : goal.returns-in_ok-new-in-Not
returns-in_ok-new-in-Not t c =
    made_not c.args.run.now c.args.condition.now c.get-in-Not.result.now c.in-Not.inner (length c.args.tuple.now) c.in_ok-inner-in-Not.inner c.in_ok-new-in-Not.field-0
    c.in-Not.is c.get-in-Not.ensures c.in_ok-inner-in-Not.ensures c.in_ok-new-in-Not.ensures

pub returns-then-not-is_alone_block : goal.returns-then-not-is_alone_block
returns-then-not-is_alone_block t c = tells_plain c.args.run.now c.args.condition (length c.args.tuple.now)

pub returns-in_default : goal.returns-in_default
returns-in_default t c = tells_plain c.args.run.now c.args.condition (length c.args.tuple.now)

pub returns-else-not-is_alone_block : goal.returns-else-not-is_alone_block
returns-else-not-is_alone_block t c =
    subst (λ (w : TypedCondition). IsReadied c.args.run.now w c.args.tuple.now c.ready_rows.result)
    (ap (is.Rows c.in-Rows.against c.in-Rows.op c.in-Rows.one) c.get-in-Rows-2.ensures ∙ sym c.in-Rows.is)
    c.ready_rows.ensures

pub returns-in_err-left-in-Or : goal.returns-in_err-left-in-Or
returns-in_err-left-in-Or t c =
    let run = c.args.run.now in
    let e = c.in_err-left-in-Or.field-0.0 in
    let failed : Fails e (runs.truth run c.get.result.now (alone c.args.tuple.now)) = search rules in
    let fails : Fails e (runs.truth run c.args.condition.now (alone c.args.tuple.now)) = or_left_fails run e c.args.condition.now c.get.result.now c.in-Or.left c.in-Or.right c.args.tuple.now c.in-Or.is c.get.ensures failed in
    first_of (search (rules, fails), grind (arith, common_steps, fails))

pub returns-in_err-right-in-Or : goal.returns-in_err-right-in-Or
returns-in_err-right-in-Or t c =
    let run = c.args.run.now in
    let e = c.in_err-right-in-Or.field-0.0 in
    let failed : Fails e (runs.truth run c.get-in-Or.result.now (alone c.args.tuple.now)) = search rules in
    let fails : Fails e (runs.truth run c.args.condition.now (alone c.args.tuple.now)) = or_right_fails run e c.args.condition.now c.get-in-Or.result.now c.in-Or.left c.in-Or.right c.args.tuple.now c.in-Or.is c.get-in-Or.ensures failed in
    first_of (search (rules, fails), grind (arith, common_steps, fails))

pub returns-in_err-left-in-And : goal.returns-in_err-left-in-And
returns-in_err-left-in-And t c =
    let run = c.args.run.now in
    let e = c.in_err-left-in-And.field-0.0 in
    let failed : Fails e (runs.truth run c.get-in-And.result.now (alone c.args.tuple.now)) = search rules in
    let fails : Fails e (runs.truth run c.args.condition.now (alone c.args.tuple.now)) = and_left_fails run e c.args.condition.now c.get-in-And.result.now c.in-And.left c.in-And.right c.args.tuple.now c.in-And.is c.get-in-And.ensures failed in
    first_of (search (rules, fails), grind (arith, common_steps, fails))

pub returns-in_err-right-in-And : goal.returns-in_err-right-in-And
returns-in_err-right-in-And t c =
    let run = c.args.run.now in
    let e = c.in_err-right-in-And.field-0.0 in
    let failed : Fails e (runs.truth run c.get-in-And-2.result.now (alone c.args.tuple.now)) = search rules in
    let fails : Fails e (runs.truth run c.args.condition.now (alone c.args.tuple.now)) = and_right_fails run e c.args.condition.now c.get-in-And-2.result.now c.in-And.left c.in-And.right c.args.tuple.now c.in-And.is c.get-in-And-2.ensures failed in
    first_of (search (rules, fails), grind (arith, common_steps, fails))

pub returns-in_err-inner-in-Not : goal.returns-in_err-inner-in-Not
returns-in_err-inner-in-Not t c =
    let run = c.args.run.now in
    let e = c.in_err-inner-in-Not.field-0.0 in
    let failed : Fails e (runs.truth run c.get-in-Not.result.now (alone c.args.tuple.now)) = search rules in
    let fails : Fails e (runs.truth run c.args.condition.now (alone c.args.tuple.now)) = not_fails run e c.args.condition.now c.get-in-Not.result.now c.in-Not.inner c.args.tuple.now c.in-Not.is c.get-in-Not.ensures failed in
    first_of (search (rules, fails), grind (arith, common_steps, fails))
