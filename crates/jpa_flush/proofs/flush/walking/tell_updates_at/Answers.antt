use Rattle.std.proofs.Common.{◌≡◌, ◌∙◌, List, ap, sym, length, get_or, drop, arith, subst, true}
use Rattle.std.proofs.lemmas.Result.{err_from_is_err_and}
use Rattle.jpa_behaviour.specs.Served.{world_of_unit}
use Rattle.jpa_work.specs.declared.context.Entry.{Entry}
use Rattle.jpa_work.specs.context.Steps.{Done, IsRefusedAs, each}
use Rattle.jpa_work.specs.context.Undo.{now}
use Rattle.jpa_flush.specs.flush.Flush.{pre_update, pre_update_one}
use Rattle.jpa_flush.specs.flush.Marked.{AreLooked, from, is_calm}
use Rattle.jpa_flush.specs.flush.Plan.{step_of, update}
use Rattle.jpa_flush.proofs.flush.TurnsOfUpdates.{quiet_next, still_looked, updates_next, updates_refused, updates_end}
use Rattle.jpa_flush.proofs.flush.Updated.{by_step, updated_twice, updated_ready}
use Rattle.jpa_flush.proofs.flush.walking.tell_updates_at.Goals as goal

pub loop-place-preserved : goal.loop-place-preserved
loop-place-preserved g c =
    let m = c.args.unit.now.metamodel in
    let world = world_of_unit g.B.Behaviour.meaning c.args.unit.now in
    let w0 = now c.args.work.now in
    let w = now c.loop-place.work in
    let w' = now c.tell_update.new.work in
    let i = c.loop-place.place-index in
    let p = get_or c.args.places.now i 0 in
    let e = c.index-as_slice-place.result in
    let l = c.loop-place-test.true in
    let same = c.loop-place.invariant.same in
    let quiet = c.loop-place.invariant.quiet in
    let looked = c.requires.looked in
    let read : e ≡ get_or w.context p e = c.index-as_slice-place.is ∙ ap (λ (es : List Entry). get_or es p e) c.as_slice.ensures in
    let done : update world e.object (step_of m w e) w ≡ Done tt w' = ap (λ s. update world e.object s w) (sym c.in_ok-step.ensures.ok) ∙ c.in_ok-tell_update.ensures.meets in
    let step = by_step world e.object (step_of m w e) w w' done in
    record {
      rest = updates_next world w0 w looked same quiet w' i e l read done ∙ c.loop-place.invariant.rest;
      same = updated_twice w0 w w' same step;
      quiet = quiet_next world w0 w looked same quiet w' i e c.requires.ready.distinct l read done;
      ready = updated_ready m w w' step c.loop-place.invariant.ready;
      since = c.tell_update.ensures.since ∙ c.loop-place.invariant.since;
    }

pub returns-in_err-tell_update-clause-meets : goal.returns-in_err-tell_update-clause-meets
returns-in_err-tell_update-clause-meets g c =
    let m = c.args.unit.now.metamodel in
    let world = world_of_unit g.B.Behaviour.meaning c.args.unit.now in
    let w0 = now c.args.work.now in
    let w = now c.loop-place.work in
    let i = c.loop-place.place-index in
    let q = get_or c.args.places.now i 0 in
    let e = c.index-as_slice-place.result in
    let read : e ≡ get_or w.context q e = c.index-as_slice-place.is ∙ ap (λ (es : List Entry). get_or es q e) c.as_slice.ensures in
    let r = c.in_err-tell_update.field-0.0 in
    let events = (now c.tell_update.new.work).events in
    let refused : IsRefusedAs r events (update world e.object (step_of m w e) w) = subst (λ s. IsRefusedAs r events (update world e.object s w)) c.in_ok-step.ensures.ok c.in_err-tell_update.ensures.meets in
    let p = err_from_is_err_and c.from_residual-in_err-tell_update.result c.from_residual-in_err-tell_update.ensures.1 in
    rw (p.1, p.2)
    (updates_refused world w0 w c.requires.looked c.loop-place.invariant.same c.loop-place.invariant.quiet i e r events (pre_update world w0) c.loop-place-test.true read c.loop-place.invariant.rest refused)

pub returns-clause-meets : goal.returns-clause-meets
returns-clause-meets g c =
    let world = world_of_unit g.B.Behaviour.meaning c.args.unit.now in
    let w0 = now c.args.work.now in
    let w = now c.loop-place.work in
    let places = c.args.places.now in
    let last : c.loop-place.place-index ≡ length places = omega (arith, c.loop-place-test.false, c.loop-place.auto.place-index-end) in
    sym c.loop-place.invariant.rest ∙ ap (λ j. each (pre_update_one world) (drop (from places j) w0.context) w) last
    ∙ sym (updates_end world w0 w c.requires.looked c.loop-place.invariant.same c.loop-place.invariant.quiet)

pub returns-clause-still : goal.returns-clause-still
returns-clause-still g c =
    let m = c.args.unit.now.metamodel in
    let world = world_of_unit g.B.Behaviour.meaning c.args.unit.now in
    let w0 = now c.args.work.now in
    let w = now c.loop-place.work in
    let same = c.loop-place.invariant.same in
    subst (λ (es : List Entry). AreLooked (λ e. is_calm m w e ≡ true) es c.args.places.now) (sym same.context)
    (still_looked world w0 w c.requires.looked same c.loop-place.invariant.quiet)
