use Rattle.std.proofs.Common.{◌≡◌, ◌∙◌, ap, sym, List, map}
use Rattle.jpa_behaviour.specs.Served.{world_of_unit}
use Rattle.jpa_open.specs.Opened as opened
use Rattle.jpql_bulk.specs.bulk.Throwing as registered
use Rattle.jpql_bulk.specs.bulk.Changes.{change_in, found_by_update}
use Rattle.jpql_bulk.specs.declared.bulk.update.Change.{Change}
use Rattle.jpql_bulk.specs.kept.Fits.{throws_in}
use Rattle.jpql_meaning.specs.plan.Bulk.{Throws, each_assigned}
use Rattle.jpql_meaning.specs.plan.Paths.{Entry}
use Rattle.jpa_updates.proofs.Found.{throws_same, assign_refused}
use Rattle.jpa_updates.proofs.finding.made_by_update.Goals as goal

pub returns-clause-made : goal.returns-clause-made
returns-clause-made g c =
    let m = c.args.unit.now.metamodel in
    let world = world_of_unit g.B.Behaviour.meaning c.args.unit.now in
    let found = found_by_update m (opened.now c.args.view.now) c.args.arguments.now c.args.class c.args.assignments.now c.args.filter.now in
    let changes = λ (xs : List Change). map change_in xs in
    let throws = registered.throws_in g.B.Behaviour.meaning c.args.unit.now.registry in
    let assigned : each_assigned m (throws_in world) (changes c.in-Ok.found.items) ≡ each_assigned m throws (changes c.deref.result.now) =
    ap (λ (t : Throws). each_assigned m t (changes c.in-Ok.found.items)) (throws_same g.B.Behaviour.meaning m c.args.unit.now.registry)
    ∙ ap (λ (xs : List Change). each_assigned m throws (changes xs)) (sym c.deref.ensures.value) in
    assign_refused (λ (es : List Entry). es) c.cause.result c.in-Err-assign.refused found (each_assigned m (throws_in world)) (changes c.in-Ok.found.items)
    (each_assigned m throws (changes c.deref.result.now)) c.cause.ensures c.in-Ok.ensures assigned c.in-Err-assign.ensures
