use Rattle.std.proofs.Common.{◌≡◌, ◌∙◌, ◌<◌, ◌≤◌, ap, subst, length, get_or, List}
use Rattle.std.proofs.lemmas.List.{get_or_default}
use Rattle.jpa_model.specs.declared.unit.Relation.{Relation}
use Rattle.jpa_model.specs.Chains.{relations_of}
use Rattle.jpa_work.specs.declared.heap.LiveObject.{LiveObject}
use Rattle.jpa_work.specs.heap.Objects.{no_object}
use Rattle.jpa_work.specs.context.Undo.{now}
use Rattle.jpa_work.specs.context.Work.{object}
use Rattle.jpa_flush.specs.flush.Flush.{owned_along}
use Rattle.jpa_flush.proofs.flush.Rounds.{owned_round, owned_whole}
use Rattle.jpa_flush.proofs.flush.storing.owned_of.Goals as goal

pub loop-relation-preserved : goal.loop-relation-preserved
loop-relation-preserved c =
    let m = c.args.metamodel.now in
    let w = now c.args.work.now in
    let n = c.args.object in
    let rs = relations_of m (object w n).class in
    let x = c.index-as_slice-object.result in
    let own : get_or c.as_slice.result.now n x ≡ object w n = ap (λ (os : List LiveObject). get_or os n x) c.as_slice.ensures ∙ get_or_default w.objects n x no_object c.requires.object in
    let same : c.relations_of-relation-end.result.now ≡ rs = c.relations_of-relation-end.ensures.relations ∙ ap (λ (o : LiveObject). relations_of m o.class) own in
    let l : c.loop-relation.relation < length rs = subst (λ (xs : List Relation). c.loop-relation.relation < length xs) same c.loop-relation-test.true in
    owned_round (owned_along m w n) rs c.loop-relation.relation c.loop-relation.owned c.push.new.self c.in_ok-owned_along.field-0 l c.loop-relation.invariant c.in_ok-owned_along.ensures.ok c.in_ok-push.ensures.ok

pub returns-clause-ok : goal.returns-clause-ok
returns-clause-ok c =
    let m = c.args.metamodel.now in
    let w = now c.args.work.now in
    let n = c.args.object in
    let rs = relations_of m (object w n).class in
    let x = c.index-as_slice-object.result in
    let own : get_or c.as_slice.result.now n x ≡ object w n = ap (λ (os : List LiveObject). get_or os n x) c.as_slice.ensures ∙ get_or_default w.objects n x no_object c.requires.object in
    let same : c.relations_of-relation-end.result.now ≡ rs = c.relations_of-relation-end.ensures.relations ∙ ap (λ (o : LiveObject). relations_of m o.class) own in
    let l : length rs ≤ c.loop-relation.relation = subst (λ (xs : List Relation). length xs ≤ c.loop-relation.relation) same c.loop-relation-test.false in
    owned_whole (owned_along m w n) rs c.loop-relation.relation c.loop-relation.owned l c.loop-relation.invariant
