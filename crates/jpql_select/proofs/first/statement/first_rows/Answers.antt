use Rattle.std.proofs.Common.{rules, arith, ◌∙◌, ap, sym, subst, List, map, take}
use Rattle.std.proofs.lemmas.Grind.{common_steps}
use Rattle.jpa_open.specs.Opened.{now}
use Rattle.jpql_meaning.specs.eval.Answers.{every, gives, under}
use Rattle.jpql_meaning.specs.eval.Finds.{Fails}
use Rattle.jpql_meaning.specs.plan.Meaning.{alone}
use Rattle.jpql_meaning.specs.plan.Paths.{Tuple}
use Rattle.jpql_meaning.specs.plan.Selection.{selected, in_order}
use Rattle.jpql_run.proofs.Turns.{fails_on}
use Rattle.jpql_select.specs.select.Selects.{row_of}
use Rattle.jpql_select.specs.select.Tables.{items_in}
use Rattle.jpql_select.proofs.first.statement.first_rows.Goals as goal

pub returns-in_err-rows : goal.returns-in_err-rows
returns-in_err-rows c =
    let run = c.args.run.now in
    let q = c.args.statement.now in
    let n = c.args.count in
    let all = c.in_ok-tuples.tuples.items in
    let e = c.in_err-rows.field-0.0 in
    let best = λ (ts : List Tuple). under (λ rows. take n (in_order q.order rows)) (every (map (row_of run q) (map alone ts))) in
    let failed : Fails e (best all) = subst (λ ts. Fails e (best ts)) c.deref.ensures.value c.in_err-rows.ensures in
    let fails : Fails e (under (take n) (selected run.metamodel.now (now run.set.now) run.parameters.now q)) =
    fails_on e (best all) (under (take n) (selected run.metamodel.now (now run.set.now) run.parameters.now q))
    (λ over. c.in_ok-tuples.ensures.ok ∙ ap (under items_in) over) failed in
    first_of (search (rules, fails), grind (arith, common_steps, fails))

pub returns : goal.returns
returns c =
    let run = c.args.run.now in
    let q = c.args.statement.now in
    let n = c.args.count in
    let best = λ (ts : List Tuple). under (λ rows. take n (in_order q.order rows)) (every (map (row_of run q) (map alone ts))) in
    c.in_ok-tuples.ensures.ok
    ∙ ap (under items_in) (ap best (sym c.deref.ensures.value) ∙ c.in_ok-rows.ensures)
    ∙ ap gives (sym c.in_ok-table_of.ensures)
