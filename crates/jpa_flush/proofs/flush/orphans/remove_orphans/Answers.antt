use Rattle.std.proofs.Common.{◌≡◌, ◌<◌, ◌∙◌, ap, subst, get_or, length, List, arith, rules}
use Rattle.std.proofs.lemmas.Result.{err_from_is_err_and}
use Rattle.jpa_behaviour.specs.Served.{world_of_unit}
use Rattle.jpa_work.specs.declared.context.Entry.{Entry}
use Rattle.jpa_work.specs.context.Steps.{IsRefusedAs, Done}
use Rattle.jpa_work.specs.context.Undo.{now}
use Rattle.jpa_work.specs.context.Work.{state_of}
use Rattle.jpa_operations.proofs.ops.Front.{IsOnward}
use Rattle.jpa_operations.proofs.ops.Going.{done_holds}
use Rattle.jpa_flush.specs.flush.Flush.{orphans_of}
use Rattle.jpa_flush.proofs.flush.Orphaned.{orphans_go, removed_of, turn_done, turn_refused}
use Rattle.jpa_flush.proofs.flush.orphans.remove_orphans.Goals as goal

pub returns-in_err-remove_orphans_of : goal.returns-in_err-remove_orphans_of
returns-in_err-remove_orphans_of g c =
    let world = world_of_unit g.B.Behaviour.meaning c.args.unit.now in
    let u = now c.args.work.now in
    let w = now c.loop-i.work in
    let i = c.loop-i.i in
    let e = c.index-as_slice-i.result in
    let within : i < length u.context = omega (arith, c.loop-i-test.true, c.len-i-end.ensures) in
    let is : e ≡ get_or w.context i e = c.index-as_slice-i.is ∙ ap (λ (es : List Entry). get_or es i e) c.as_slice.ensures in
    let r = c.in_err-remove_orphans_of.field-0.0 in
    let events = (now c.remove_orphans_of.new.work).events in
    let refused : IsRefusedAs r events (removed_of world e.object w) = search rules in
    let p = err_from_is_err_and c.from_residual.result c.from_residual.ensures.1 in
    record {
      carries = record {
        meets = rw (p.1, p.2)
            (subst (IsRefusedAs r events) c.loop-i.invariant.rest (turn_refused world u w i e c.loop-i.invariant.goes within is r events refused));
        view = search rules;
        since = search rules;
      };
      ready = search rules;
      named = search rules;
    }

pub loop-i-preserved : goal.loop-i-preserved
loop-i-preserved g c =
    let m = c.args.unit.now.metamodel in
    let world = world_of_unit g.B.Behaviour.meaning c.args.unit.now in
    let u = now c.args.work.now in
    let w = now c.loop-i.work in
    let w' = now c.remove_orphans_of.new.work in
    let i = c.loop-i.i in
    let e = c.index-as_slice-i.result in
    let within : i < length u.context = omega (arith, c.loop-i-test.true, c.len-i-end.ensures) in
    let is : e ≡ get_or w.context i e = c.index-as_slice-i.is ∙ ap (λ (es : List Entry). get_or es i e) c.as_slice.ensures in
    let done : removed_of world e.object w ≡ Done tt w' = search rules in
    let before = c.loop-i.invariant in
    record {
      rest = turn_done world u w i e before.goes within is w' done ∙ before.rest;
      goes = done_holds (IsOnward m u) (removed_of world e.object w) tt w' done (orphans_go world u (orphans_of m w e.object (state_of w e.object)) w before.goes);
      view = c.remove_orphans_of.ensures.view ∙ before.view;
      since = c.remove_orphans_of.ensures.since ∙ before.since;
    }
