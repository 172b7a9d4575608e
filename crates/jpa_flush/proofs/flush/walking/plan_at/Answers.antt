use Rattle.std.proofs.Common.{◌≡◌, ◌∙◌, ◌<◌, List, ap, sym, subst, length, get_or, ◌++◌, drop, arith}
use Rattle.std.specs.Prelude.{Option}
use Rattle.std.specs.List.{flat_map}
use Rattle.std.specs.Option.{option_to_list}
use Rattle.std.proofs.lemmas.List.{append-nil}
use Rattle.std.proofs.lemmas.Result.{err_from_is_err_and}
use Rattle.jpa_behaviour.specs.Served.{world_of_unit}
use Rattle.jpa_work.specs.declared.context.Entry.{Entry}
use Rattle.jpa_work.specs.context.Undo.{now}
use Rattle.jpa_work.specs.context.Steps.{Done, IsRefusedAs, each}
use Rattle.jpa_flush.specs.declared.flush.steps.FlushAction.{FlushAction}
use Rattle.jpa_flush.specs.declared.flush.planning.Planned.{Planned}
use Rattle.jpa_flush.specs.flush.Flush.{check_one}
use Rattle.jpa_flush.specs.flush.Plan.{check, planned, planned_of, step_of}
use Rattle.jpa_flush.specs.flush.Marked.{from}
use Rattle.jpa_flush.proofs.flush.Rounds.{within_round}
use Rattle.jpa_flush.proofs.flush.Actions.{all_planned}
use Rattle.jpa_flush.proofs.flush.Turns.{checks_next, checks_refused, checks_end, plan_next, plan_ends}
use Rattle.jpa_flush.proofs.flush.walking.plan_at.Goals as goal
use Rattle.jpa_flush.proofs.flush.walking.plan_at.Goals.{in-Some+in_ok-push, in_default}

pub returns-in_err-planned-clause-ends : goal.returns-in_err-planned-clause-ends
returns-in_err-planned-clause-ends g c =
    let world = world_of_unit g.B.Behaviour.meaning c.args.unit.now in
    let w = now c.args.work.now in
    let i = c.loop-place.place-index in
    let e = c.index-as_slice-place.result in
    let read : e ≡ get_or w.context (get_or c.args.places.now i 0) e = c.index-as_slice-place.is ∙ ap (λ (es : List Entry). get_or es (get_or c.args.places.now i 0) e) c.as_slice.ensures in
    let r = c.in_err-planned.field-0.0 in
    let p = err_from_is_err_and c.from_residual-in_err-planned.result c.from_residual-in_err-planned.ensures.1 in
    rw (p.1, p.2)
    (checks_refused world w c.requires.looked i e r c.loop-place-test.true read c.loop-place.invariant.rest
    (subst (λ (s : FlushAction). IsRefusedAs r w.events (check world e.object s w)) c.in_ok-step.ensures.ok c.in_err-planned.ensures.ends))

pub loop-place-preserved : goal.loop-place-preserved
loop-place-preserved g c =
    let m = c.args.unit.now.metamodel in
    let world = world_of_unit g.B.Behaviour.meaning c.args.unit.now in
    let w = now c.args.work.now in
    let i = c.loop-place.place-index in
    let e = c.index-as_slice-place.result in
    let o = c.in_ok-planned.field-0 in
    let before = c.loop-place.plan in
    let l = c.loop-place-test.true in
    let looked = c.requires.looked in
    let read : e ≡ get_or w.context (get_or c.args.places.now i 0) e = c.index-as_slice-place.is ∙ ap (λ (es : List Entry). get_or es (get_or c.args.places.now i 0) e) c.as_slice.ensures in
    let within = subst (λ (x : Entry). x.object < length w.objects) (sym read) (c.requires.ready.placed.entries (get_or c.args.places.now i 0) e ((looked.rising).within i l)) in
    let this : o ≡ planned m w e.object (step_of m w e) = c.in_ok-planned.ensures.planned ∙ ap (planned m w e.object) c.in_ok-step.ensures.ok in
    let done : check world e.object (step_of m w e) w ≡ Done tt w =
    ap (λ (s : FlushAction). check world e.object s w) (sym c.in_ok-step.ensures.ok) ∙ c.in_ok-planned.ensures.ends in
    let more : c.match-branch-3.plan ≡ before ++ option_to_list o =
    elim c.match-branch-3.branch [
      | in-Some+in_ok-push v ↦ v.plan-is ∙ v.in_ok-push.ensures.ok ∙ ap (λ (q : Option Planned). before ++ option_to_list q) (sym v.in-Some.is)
      | in_default v ↦ v.plan-is ∙ sym (append-nil before) ∙ ap (λ (q : Option Planned). before ++ option_to_list q) (sym v.in_default.is)
    ] in
    record {
      planned = plan_next world w looked i e before c.match-branch-3.plan o l read c.loop-place.invariant.planned this more;
      objects = within_round m w e before c.match-branch-3.plan o within c.loop-place.invariant.objects this more;
      rest = checks_next world w looked i e l read done ∙ c.loop-place.invariant.rest;
    }

pub returns-clause-planned : goal.returns-clause-planned
returns-clause-planned g c =
    let m = c.args.unit.now.metamodel in
    let world = world_of_unit g.B.Behaviour.meaning c.args.unit.now in
    let w = now c.args.work.now in
    let places = c.args.places.now in
    let last : c.loop-place.place-index ≡ length places = omega (arith, c.loop-place-test.false, c.loop-place.auto.place-index-end) in
    plan_ends world w c.requires.looked c.loop-place.plan
    (ap (λ j. c.loop-place.plan ++ flat_map (planned_of m w) (drop (from places j) w.context)) (sym last) ∙ c.loop-place.invariant.planned)
    ∙ all_planned m w

pub returns-clause-ends : goal.returns-clause-ends
returns-clause-ends g c =
    let world = world_of_unit g.B.Behaviour.meaning c.args.unit.now in
    let w = now c.args.work.now in
    let places = c.args.places.now in
    let last : c.loop-place.place-index ≡ length places = omega (arith, c.loop-place-test.false, c.loop-place.auto.place-index-end) in
    sym c.loop-place.invariant.rest ∙ ap (λ j. each (check_one world) (drop (from places j) w.context) w) last ∙ sym (checks_end world w c.requires.looked)
