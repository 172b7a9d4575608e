use Rattle.std.proofs.Common.{rules, ◌≡◌, ◌∙◌, ap, sym, ◌+◌, ◌<◌, drop, length, map, Ok}
use Rattle.jpa_stored.specs.declared.objects.stored.Stored.{Stored}
use Rattle.jpql_bulk.specs.bulk.Throwing.{throws_in}
use Rattle.jpql_meaning.specs.plan.Bulk.{all_assigned}
use Rattle.jpql_bulk.specs.bulk.Changes.{members_in, change_in}
use Rattle.jpql_bulk.proofs.bulk.Made.{after, made_more}
use Rattle.jpql_bulk.proofs.bulk.changes.assign.Goals as goal

pub loop-change-preserved : goal.loop-change-preserved
loop-change-preserved g c =
    let m = c.args.unit.now.metamodel in
    let throws = throws_in g.B.Behaviour.meaning c.args.unit.now.registry in
    let xs = c.args.changes.now in
    let i = c.loop-change.change-index in
    let one = c.change-item.result in
    let new = c.in_ok-new.new in
    let within : i < length xs = search rules in
    let kept : one.object.at.now.1 ≡ c.in_ok-old.old = (let h = c.in_ok-old.ensures in cc) in
    let id : one.object.at.now.0 ≡ c.in_ok-copied.field-0 = (let h = c.in_ok-copied.ensures in cc) in
    let made : all_assigned m throws one.object.at.now.1 (members_in one.members.items) ≡ Ok new =
    ap (λ ms. all_assigned m throws one.object.at.now.1 (members_in ms)) (sym c.deref.ensures.value)
    ∙ ap (λ (old : Stored). all_assigned m throws old (members_in c.deref.result.now)) kept ∙ c.in_ok-new.ensures in
    made_more m throws _ c.loop-change.made.items xs i one new c.in_ok-copied.field-0 within c.change-item.is made id c.loop-change.invariant
    ∙ ap (λ made. after m throws made (map change_in (drop (i + 1) xs))) (sym c.in_ok-push.ensures.items)
