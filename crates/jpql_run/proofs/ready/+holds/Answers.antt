use Rattle.std.proofs.Common.{rules, arith, ap, sym, subst, ◌∙◌, ◌≡◌}
use Rattle.std.proofs.lemmas.Grind.{common_steps}
use Rattle.jpql_meaning.specs.declared.eval.datum.Truth.{Truth}
use Rattle.jpql_meaning.specs.eval.Answers.{Answer, gives, under}
use Rattle.jpql_meaning.specs.eval.Finds.{Fails, Finds, same}
use Rattle.jpql_meaning.specs.eval.Seen.{seen}
use Rattle.jpql_run.specs.Ready.{asked, ready_truth}
use Rattle.jpql_run.specs.Runs as runs
use Rattle.jpql_run.proofs.Readied.{says_or, says_and, says_not, or_left_breaks, or_right_breaks, and_left_breaks, and_right_breaks, not_breaks, ready_beside, ready_plain, beside_breaks}
use Rattle.jpql_run.proofs.ready.+holds.Goals as goal

pub returns-in_ok-right-in-Or : goal.returns-in_ok-right-in-Or
returns-in_ok-right-in-Or t c =
    says_or c.args.run.now c.args.ready.now c.get.result.now c.get-in-Or.result.now c.in-Or.left c.in-Or.right c.args.tuple.now
    c.in_ok-left-in-Or.left c.in_ok-right-in-Or.right c.in-Or.is c.get.ensures c.get-in-Or.ensures c.in_ok-left-in-Or.ensures c.in_ok-right-in-Or.ensures
    ∙ ap gives (sym c.or3.ensures)

pub returns-in_ok-right-in-And : goal.returns-in_ok-right-in-And
returns-in_ok-right-in-And t c =
    says_and c.args.run.now c.args.ready.now c.get-in-And.result.now c.get-in-And-2.result.now c.in-And.left c.in-And.right c.args.tuple.now
    c.in_ok-left-in-And.left c.in_ok-right-in-And.right c.in-And.is c.get-in-And.ensures c.get-in-And-2.ensures c.in_ok-left-in-And.ensures c.in_ok-right-in-And.ensures
    ∙ ap gives (sym c.and3.ensures)

pub returns-in_ok-holds-in-Not : goal.returns-in_ok-holds-in-Not
returns-in_ok-holds-in-Not t c =
    says_not c.args.run.now c.args.ready.now c.get-in-Not.result.now c.in-Not.inner c.args.tuple.now c.in_ok-holds-in-Not.field-0 c.in-Not.is c.get-in-Not.ensures c.in_ok-holds-in-Not.ensures
    ∙ ap gives (sym c.not3.ensures)

pub returns-in_ok-one-in-Beside : goal.returns-in_ok-one-in-Beside
returns-in_ok-one-in-Beside t c =
    let run = c.args.run.now in
    let found : runs.value_alone run c.in-Beside.one.now c.args.tuple.now ≡ gives (seen c.in_ok-one-in-Beside.one) = c.in_ok-one-in-Beside.ensures in
    ap (λ z. ready_truth run z c.args.tuple.now) c.in-Beside.is
    ∙ ready_beside run c.in-Beside.comparison c.in-Beside.one c.in-Beside.told c.args.tuple.now
    ∙ ap (under (asked c.in-Beside.told c.in-Beside.comparison)) found
    ∙ ap gives (sym c.beside.ensures)

pub returns-in_err-left-in-Or : goal.returns-in_err-left-in-Or
returns-in_err-left-in-Or t c =
    let run = c.args.run.now in
    let e = c.in_err-left-in-Or.field-0.0 in
    let failed : Fails e (ready_truth run c.get.result.now c.args.tuple.now) = search rules in
    let fails : Fails e (ready_truth run c.args.ready.now c.args.tuple.now) = or_left_breaks run e c.args.ready.now c.get.result.now c.in-Or.left c.in-Or.right c.args.tuple.now c.in-Or.is c.get.ensures failed in
    first_of (search (rules, fails), grind (arith, common_steps, fails))

pub returns-in_err-right-in-Or : goal.returns-in_err-right-in-Or
returns-in_err-right-in-Or t c =
    let run = c.args.run.now in
    let e = c.in_err-right-in-Or.field-0.0 in
    let failed : Fails e (ready_truth run c.get-in-Or.result.now c.args.tuple.now) = search rules in
    let fails : Fails e (ready_truth run c.args.ready.now c.args.tuple.now) = or_right_breaks run e c.args.ready.now c.get-in-Or.result.now c.in-Or.left c.in-Or.right c.args.tuple.now c.in-Or.is c.get-in-Or.ensures failed in
    first_of (search (rules, fails), grind (arith, common_steps, fails))

pub returns-in_err-left-in-And : goal.returns-in_err-left-in-And
returns-in_err-left-in-And t c =
    let run = c.args.run.now in
    let e = c.in_err-left-in-And.field-0.0 in
    let failed : Fails e (ready_truth run c.get-in-And.result.now c.args.tuple.now) = search rules in
    let fails : Fails e (ready_truth run c.args.ready.now c.args.tuple.now) = and_left_breaks run e c.args.ready.now c.get-in-And.result.now c.in-And.left c.in-And.right c.args.tuple.now c.in-And.is c.get-in-And.ensures failed in
    first_of (search (rules, fails), grind (arith, common_steps, fails))

pub returns-in_err-right-in-And : goal.returns-in_err-right-in-And
returns-in_err-right-in-And t c =
    let run = c.args.run.now in
    let e = c.in_err-right-in-And.field-0.0 in
    let failed : Fails e (ready_truth run c.get-in-And-2.result.now c.args.tuple.now) = search rules in
    let fails : Fails e (ready_truth run c.args.ready.now c.args.tuple.now) = and_right_breaks run e c.args.ready.now c.get-in-And-2.result.now c.in-And.left c.in-And.right c.args.tuple.now c.in-And.is c.get-in-And-2.ensures failed in
    first_of (search (rules, fails), grind (arith, common_steps, fails))

pub returns-in_err-holds-in-Not : goal.returns-in_err-holds-in-Not
returns-in_err-holds-in-Not t c =
    let run = c.args.run.now in
    let e = c.in_err-holds-in-Not.field-0.0 in
    let failed : Fails e (ready_truth run c.get-in-Not.result.now c.args.tuple.now) = search rules in
    let fails : Fails e (ready_truth run c.args.ready.now c.args.tuple.now) = not_breaks run e c.args.ready.now c.get-in-Not.result.now c.in-Not.inner c.args.tuple.now c.in-Not.is c.get-in-Not.ensures failed in
    first_of (search (rules, fails), grind (arith, common_steps, fails))

pub returns-in_err-one-in-Beside : goal.returns-in_err-one-in-Beside
returns-in_err-one-in-Beside t c =
    let run = c.args.run.now in
    let e = c.in_err-one-in-Beside.field-0.0 in
    let failed : Fails e (runs.value_alone run c.in-Beside.one.now c.args.tuple.now) = search rules in
    let fails : Fails e (ready_truth run c.args.ready.now c.args.tuple.now) = beside_breaks run e c.args.ready.now c.in-Beside.comparison c.in-Beside.one c.in-Beside.told c.args.tuple.now c.in-Beside.is failed in
    first_of (search (rules, fails), grind (arith, common_steps, fails))

pub returns-in-Plain : goal.returns-in-Plain
returns-in-Plain t c =
    let run = c.args.run.now in
    subst (Finds same c.truth.result) (sym (ap (λ z. ready_truth run z c.args.tuple.now) c.in-Plain.is ∙ ready_plain run c.in-Plain.condition c.args.tuple.now)) c.truth.ensures
