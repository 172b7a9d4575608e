use Rattle.std.proofs.Common.{◌∙◌, ◌||◌, ap, sym, subst, map, Bool, List}
use Rattle.std.specs.Global.{Vec}
use Rattle.jpql_meaning.specs.eval.Finds.{Finds}
use Rattle.jpql_meaning.specs.plan.Meaning.{drops_any}
use Rattle.jpql_meaning.specs.plan.Paths.{Entry}
use Rattle.jpql_run.specs.declared.object.Object.{Object}
use Rattle.jpql_run.specs.Objects.{entry}
use Rattle.jpql_run.specs.Runs.{any_condition}
use Rattle.jpql_bulk.specs.bulk.Bulks.{there, kept_of, set_drops, tuple_of}
use Rattle.jpql_bulk.proofs.bulk.concerned.concerned.Goals as goal

pub returns : goal.returns
returns c =
    let run = c.args.run.now in
    let named = c.args.is_named in
    let all = c.args.all.now in
    let filter = c.args.filter.now in
    let drops : Entry → Bool = λ (e : Entry). set_drops run all (tuple_of run named e) || drops_any (any_condition run filter) (tuple_of run named e) in
    let left = λ (es : List Entry). kept_of run named filter es in
    subst (Finds (λ (v : Vec Object). map entry v.items) c.kept_objects.result)
    (ap (λ (os : List Object). left (map entry os)) c.deref-2.ensures.value
    ∙ ap left c.in_ok-there.ensures
    ∙ ap (λ (os : List Object). left (there run named all filter (map entry os))) c.deref.ensures.value
    ∙ sym (c.in_ok-objects.ensures drops))
    c.kept_objects.ensures
