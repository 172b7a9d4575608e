use Rattle.std.proofs.Common.{rules, arith, map}
use Rattle.std.proofs.lemmas.Grind.{common_steps}
use Rattle.jpql_trees.specs.declared.typed.typed.TypedCondition.TheVariants as is
use Rattle.jpql_meaning.specs.declared.eval.datum.Datum.{Datum}
use Rattle.jpql_meaning.specs.eval.Finds.{Fails}
use Rattle.jpql_meaning.specs.eval.Judged.{judged}
use Rattle.jpql_meaning.specs.eval.Seen.{seen}
use Rattle.jpql_meaning.specs.plan.Meaning.{alone}
use Rattle.jpql_run.specs.Runs as runs
use Rattle.jpql_run.proofs.Readied.{rows_fail, told_fails, tells_rows}
use Rattle.jpql_run.proofs.ready.ready_rows.Goals as goal

pub returns-in_err-rows : goal.returns-in_err-rows
returns-in_err-rows c =
    let run = c.args.run.now in
    let e = c.in_err-rows.field-0.0 in
    let failed : Fails e (runs.rows run c.args.block.now c.args.tuple.now) = search rules in
    let fails : Fails e (runs.truth run (is.Rows c.args.against c.args.comparison c.args.one.now c.args.block.now) (alone c.args.tuple.now)) =
    rows_fail run e c.args.against c.args.comparison c.args.one.now c.args.block.now c.args.tuple.now failed in
    first_of (search (rules, fails), grind (arith, common_steps, fails))

pub returns-in_err-told : goal.returns-in_err-told
returns-in_err-told c =
    let run = c.args.run.now in
    let e = c.in_err-told.field-0.0 in
    let failed : (x : Datum) → Fails e (judged c.args.against c.args.comparison x (map seen c.in_ok-rows.rows.items)) = c.in_err-told.ensures in
    let fails : Fails e (runs.truth run (is.Rows c.args.against c.args.comparison c.args.one.now c.args.block.now) (alone c.args.tuple.now)) =
    told_fails run e c.args.against c.args.comparison c.args.one.now c.args.block.now c.args.tuple.now (map seen c.in_ok-rows.rows.items) c.in_ok-rows.ensures failed in
    first_of (search (rules, fails), grind (arith, common_steps, fails))

pub returns : goal.returns
returns c =
    tells_rows c.args.run.now c.args.against c.args.comparison c.args.one c.args.block.now c.args.tuple.now (map seen c.in_ok-rows.rows.items) c.in_ok-told.told
    c.requires.alone c.in_ok-rows.ensures c.in_ok-told.ensures
