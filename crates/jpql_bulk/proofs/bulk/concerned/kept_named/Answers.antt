use Rattle.std.proofs.Common.{rules, arith, ◌≡◌, ◌∙◌, ap, sym, subst, true, map, List}
use Rattle.std.specs.Prelude.{filter_map}
use Rattle.std.proofs.lemmas.Grind.{common_steps}
use Rattle.jpql_meaning.specs.eval.Answers.{gives}
use Rattle.jpql_meaning.specs.eval.Finds.{Fails}
use Rattle.jpql_meaning.specs.plan.Meaning.{kept}
use Rattle.jpql_meaning.specs.plan.Paths.{Tuple}
use Rattle.jpql_run.specs.Objects.{entry}
use Rattle.jpql_run.specs.Runs.{test_of}
use Rattle.jpql_bulk.specs.bulk.Bulks.{first_object, kept_of}
use Rattle.jpql_bulk.proofs.bulk.Named.{objects_kept, objects_fail}
use Rattle.jpql_bulk.proofs.bulk.concerned.kept_named.Goals as goal

pub returns-in_err-left : goal.returns-in_err-left
returns-in_err-left c =
    let run = c.args.run.now in
    let es = map entry c.args.objects.now in
    let test = λ (t : Tuple). test_of run c.args.filter.now t in
    let e = c.in_err-left.field-0.0 in
    let failed : Fails e (kept test c.in_ok-tuples.tuples.items) = search rules in
    let fails : Fails e (kept_of run true c.args.filter.now es) = objects_fail run test es e (subst (λ (ts : List Tuple). Fails e (kept test ts)) c.in_ok-tuples.ensures failed) in
    first_of (search (rules, fails), grind (arith, common_steps, fails))

pub returns : goal.returns
returns c =
    let run = c.args.run.now in
    let es = map entry c.args.objects.now in
    let test = λ (t : Tuple). test_of run c.args.filter.now t in
    objects_kept run test es c.in_ok-left.left.items (ap (kept test) (sym c.in_ok-tuples.ensures) ∙ c.in_ok-left.ensures)
    ∙ ap (λ (ts : List Tuple). gives (filter_map first_object ts)) (sym c.deref.ensures.value)
    ∙ ap gives (sym c.in_ok-objects_in.ensures)
