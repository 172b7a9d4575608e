use Rattle.std.proofs.Common.{rules, ◌∙◌, ap, sym, ◌+◌, ◌<◌, drop, length}
use Rattle.jpql_bulk.specs.bulk.Bulks as bulks
use Rattle.jpql_bulk.specs.bulk.Changes.{change_in}
use Rattle.jpql_run.specs.Objects.{entry}
use Rattle.jpql_bulk.proofs.bulk.Each.{after, found_more}
use Rattle.jpql_bulk.proofs.bulk.update.each_change.Goals as goal

pub loop-object-preserved : goal.loop-object-preserved
loop-object-preserved c =
    let of = bulks.assignments_for c.args.run.now c.args.all.now in
    let xs = c.args.objects.now in
    let i = c.loop-object.object-index in
    let within : i < length xs = search rules in
    found_more of entry change_in _ c.loop-object.found.items xs i c.object-item.result c.in_ok-change_of.field-0 within c.object-item.is c.in_ok-change_of.ensures
    c.loop-object.invariant
    ∙ ap (λ found. after of entry change_in found (drop (i + 1) xs)) (sym c.in_ok-push.ensures.items)
