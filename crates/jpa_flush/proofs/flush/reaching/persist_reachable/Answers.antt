use Rattle.std.proofs.Common.{◌≡◌, ◌≤◌, ◌∙◌, ◌-◌, ◌<◌, ap, sym, subst, get_or, length, List, arith, rules}
use Rattle.std.proofs.lemmas.Result.{err_from_is_err_and}
use Rattle.jpa_behaviour.specs.Served.{world_of_unit}
use Rattle.jpa_work.specs.declared.context.Entry.{Entry}
use Rattle.jpa_work.specs.context.Steps.{IsRefusedAs, Done}
use Rattle.jpa_work.specs.context.Undo.{now}
use Rattle.jpa_work.specs.context.Work.{state_of}
use Rattle.jpa_flush.specs.flush.Flush.{persist_targets}
use Rattle.jpa_flush.proofs.flush.Reached.{past, turn_done, turn_refused}
use Rattle.jpa_flush.proofs.flush.reaching.persist_reachable.Goals as goal

pub returns-then-i-len : goal.returns-then-i-len
returns-then-i-len g c =
    let world = world_of_unit g.B.Behaviour.meaning c.args.unit.now in
    let w = now c.loop-i.work in
    let bound = length (now c.args.work.now).objects in
    let ended : length w.context ≤ c.loop-i.i = omega (arith, c.if-i-len.true, c.len.ensures) in
    record {
      carries = record {
        meets = sym c.loop-i.invariant.rest ∙ past world (bound - c.loop-i.i) c.loop-i.i w ended;
        view = search rules;
        since = search rules;
      };
      ready = search rules;
      named = search rules;
    }

pub returns-in_err-persist_targets : goal.returns-in_err-persist_targets
returns-in_err-persist_targets g c =
    let world = world_of_unit g.B.Behaviour.meaning c.args.unit.now in
    let w = now c.loop-i.work in
    let bound = length (now c.args.work.now).objects in
    let i = c.loop-i.i in
    let e = c.index-as_slice-i.result in
    let less : i < bound = omega (arith, c.loop-i-test.true, c.len-i-end.ensures) in
    let within : i < length w.context = omega (arith, c.if-i-len.false, c.len.ensures) in
    let is : e ≡ get_or w.context i e = c.index-as_slice-i.is ∙ ap (λ (es : List Entry). get_or es i e) c.as_slice.ensures in
    let r = c.in_err-persist_targets.field-0.0 in
    let events = (now c.persist_targets.new.work).events in
    let refused : IsRefusedAs r events (persist_targets world e.object (state_of w e.object) w) = search rules in
    let p = err_from_is_err_and c.from_residual.result c.from_residual.ensures.1 in
    record {
      carries = record {
        meets = rw (p.1, p.2)
            (subst (IsRefusedAs r events) c.loop-i.invariant.rest (turn_refused world bound i w e less within is r events refused));
        view = search rules;
        since = search rules;
      };
      ready = search rules;
      named = search rules;
    }

pub loop-i-preserved : goal.loop-i-preserved
loop-i-preserved g c =
    let world = world_of_unit g.B.Behaviour.meaning c.args.unit.now in
    let w = now c.loop-i.work in
    let bound = length (now c.args.work.now).objects in
    let i = c.loop-i.i in
    let e = c.index-as_slice-i.result in
    let less : i < bound = omega (arith, c.loop-i-test.true, c.len-i-end.ensures) in
    let within : i < length w.context = omega (arith, c.if-i-len.false, c.len.ensures) in
    let is : e ≡ get_or w.context i e = c.index-as_slice-i.is ∙ ap (λ (es : List Entry). get_or es i e) c.as_slice.ensures in
    let w' = now c.persist_targets.new.work in
    let done : persist_targets world e.object (state_of w e.object) w ≡ Done tt w' = search rules in
    let after = c.in_ok-persist_targets.ensures in
    let before = c.loop-i.invariant in
    record {
      rest = turn_done world bound i w e less within is w' done ∙ before.rest;
      ready = after.ready;
      named = λ h. after.named (before.named h);
      view = c.persist_targets.ensures.carries.view ∙ before.view;
      since = c.persist_targets.ensures.carries.since ∙ before.since;
    }
