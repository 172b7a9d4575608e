use Rattle.std.proofs.Common.{◌≡◌, ◌∙◌, ◌<◌, ◌+◌, ℕ, true, List, ◌∷◌, drop, map, length, ap, sym, subst}
use Rattle.std.specs.Prelude.{is_some}
use Rattle.std.proofs.lemmas.Bool.{and_parts}
use Rattle.std.proofs.lemmas.List.{drop_more, drop_all}
use Rattle.jpa_work.specs.declared.context.Entry.{Entry}
use Rattle.jpa_work.specs.context.Undo.{now}
use Rattle.jpa_work.specs.context.Work.{Work}
use Rattle.jpa_flush.specs.declared.flush.planning.Planned.{Planned}
use Rattle.jpa_flush.specs.flush.Entered.{are_entered, has_entry}
use Rattle.jpa_flush.specs.flush.Flush.{members_held}
use Rattle.jpa_flush.specs.flush.Plan.{learned, learned_by}
use Rattle.jpa_flush.proofs.flush.Entered.{is_placed, named_there}
use Rattle.jpa_flush.proofs.flush.Learned.{learned_context, learned_count, learned_ready}
use Rattle.jpa_flush.proofs.flush.OneEntry.{entered_after}
use Rattle.jpa_flush.proofs.flush.Settled.{learned_if}
use Rattle.jpa_flush.proofs.flush.settling.settle.Goals as goal

-- the next object has an entry, and so have those behind it
next_entered : (plan : List Planned) (i : ℕ) (p : Planned) (es : List Entry) → drop i plan ≡ p ∷ drop (i + 1) plan → are_entered (drop i plan) es ≡ true →
    (has_entry es p ≡ true) × (are_entered (drop (i + 1) plan) es ≡ true)
next_entered plan i p es first h = and_parts (has_entry es p) (are_entered (drop (i + 1) plan) es) (sym (ap (λ ps. are_entered ps es) first) ∙ h)

pub unwrap-place-requires : goal.unwrap-place-requires
unwrap-place-requires c =
    let plan = c.args.plan.now in
    let i = c.loop-planned.planned-index in
    let p = c.planned-item.result in
    let es = (now c.loop-planned.work).context in
    let first : drop i plan ≡ p ∷ drop (i + 1) plan = drop_more plan i p c.loop-planned-test.true ∙ ap (λ q. q ∷ drop (i + 1) plan) (sym c.planned-item.is) in
    ap is_some c.place_of.ensures ∙ is_placed p.object 0 es (next_entered plan i p es first c.loop-planned.invariant.entered).0

pub settle_at-requires-clause-object : goal.settle_at-requires-clause-object
settle_at-requires-clause-object c =
    let p = c.planned-item.result in
    subst (λ n. p.object < n) (sym c.loop-planned.invariant.objects)
    (subst (λ (q : Planned). q.object < length (now c.args.work.now).objects) (sym c.planned-item.is) (c.requires.objects c.loop-planned.planned-index p c.loop-planned-test.true))

pub settle_at-requires-clause-place : goal.settle_at-requires-clause-place
settle_at-requires-clause-place c = named_there c.planned-item.result.object c.unwrap-place.result (now c.loop-planned.work).context (sym c.place_of.ensures ∙ c.unwrap-place.ensures)

pub returns-clause-ok : goal.returns-clause-ok
returns-clause-ok c =
    let w = now c.loop-planned.work in
    let plan = c.args.plan.now in
    ap (λ ps. learned_by c.args.metamodel.now ps w) (sym (drop_all c.loop-planned.planned-index plan c.loop-planned-test.false)) ∙ c.loop-planned.invariant.rest

pub loop-planned-preserved : goal.loop-planned-preserved
loop-planned-preserved c =
    let m = c.args.metamodel.now in
    let plan = c.args.plan.now in
    let i = c.loop-planned.planned-index in
    let p = c.planned-item.result in
    let n = p.object in
    let x = p.stored in
    let w1 = now c.loop-planned.work in
    let w2 = now c.settle_at.new.work in
    let ps = drop (i + 1) plan in
    let before = c.loop-planned.invariant in
    let first : drop i plan ≡ p ∷ ps = drop_more plan i p c.loop-planned-test.true ∙ ap (λ q. q ∷ ps) (sym c.planned-item.is) in
    let ms = members_held m w1 n in
    let is : w2 ≡ learned m n x w1 = c.in_ok-settle_at.ensures.ok in
    let context : w2.context ≡ map (learned_if ms n x) w1.context = ap (λ (u : Work). u.context) is ∙ learned_context m n x w1 in
    record {
      rest = ap (learned_by m ps) is ∙ sym (ap (λ qs. learned_by m qs w1) first) ∙ before.rest;
      ready = learned_ready m n x w1 w2 is before.ready;
      entered = ap (are_entered ps) context ∙ entered_after ms n x ps w1.context ∙ (next_entered plan i p w1.context first before.entered).1;
      objects = ap (λ (u : Work). length u.objects) is ∙ learned_count m n x w1 ∙ before.objects;
      since = c.settle_at.ensures.since ∙ before.since;
    }
