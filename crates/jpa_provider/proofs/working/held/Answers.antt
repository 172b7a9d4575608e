use Rattle.std.proofs.Common.{◌≡◌, ◌<◌, List, length, get_or, ap, sym, subst, ◌∙◌, arith}
use Rattle.std.specs.Prelude.{Some, None}
use Rattle.std.proofs.Math.Facts.{to_z-of_z}
use Rattle.std.proofs.lemmas.List.{get_or_default}
use Rattle.jpa_behaviour.specs.Served.{world_of_unit}
use Rattle.jpa_work.specs.declared.heap.LiveObject.{LiveObject}
use Rattle.jpa_work.specs.heap.Objects.{object_at, no_object, place_of}
use Rattle.jpa_provider.specs.Operations.{at_object, manager_holding}
use Rattle.jpa_provider.specs.Serving.{machine_of}
use Rattle.jpa_provider.proofs.Sessions.{managers_count}
use Rattle.jpa_provider.proofs.Routed.{held_so, holder_within, holds, holds_not}
use Rattle.jpa_provider.proofs.working.held.Goals as goal

pub at_work-requires-clause-within : goal.at_work-requires-clause-within
at_work-requires-clause-within g c =
    let s = c.args.session.now in
    let os = s.work.objects.now in
    let n = c.in-Some.place in
    let x = c.index-as_slice-place.result in
    let counted = c.len.ensures in
    let within = c.in-Some.ensures.within in
    let l : n < length os = omega (arith, counted, within) in
    let l' : n < length c.as_slice.result.now = subst (λ (ys : List LiveObject). n < length ys) (sym c.as_slice.ensures) l in
    let read : get_or c.as_slice.result.now n x ≡ object_at os n = get_or_default c.as_slice.result.now n x no_object l' ∙ ap (λ (ys : List LiveObject). object_at ys n) c.as_slice.ensures in
    let holds : manager_holding (object_at os n).life ≡ Some c.in-Some-manager_holding.manager =
    ap (λ (y : LiveObject). manager_holding y.life) (sym read) ∙ sym c.manager_holding.ensures ∙ c.in-Some-manager_holding.is in
    holder_within s n c.in-Some-manager_holding.manager (c.requires.serving).machine l holds

pub at_work-requires-clause-object : goal.at_work-requires-clause-object
at_work-requires-clause-object g c =
    let counted = c.len.ensures in
    let within = c.in-Some.ensures.within in
    omega (arith, counted, within)

pub unheld-requires-clause-object : goal.unheld-requires-clause-object
unheld-requires-clause-object g c =
    let counted = c.len.ensures in
    let within = c.in-Some.ensures.within in
    omega (arith, counted, within)

pub returns-in-Some-manager_holding-clause-step : goal.returns-in-Some-manager_holding-clause-step
returns-in-Some-manager_holding-clause-step g c = λ e.
    let s = c.args.session.now in
    let os = s.work.objects.now in
    let world = world_of_unit g.B.Behaviour.meaning c.args.unit.now in
    let n = c.in-Some.place in
    let m = c.in-Some-manager_holding.manager in
    let x = c.index-as_slice-place.result in
    let counted = c.len.ensures in
    let within = c.in-Some.ensures.within in
    let l : n < length os = omega (arith, counted, within) in
    let l' : n < length c.as_slice.result.now = subst (λ (ys : List LiveObject). n < length ys) (sym c.as_slice.ensures) l in
    let read : get_or c.as_slice.result.now n x ≡ object_at os n = get_or_default c.as_slice.result.now n x no_object l' ∙ ap (λ (ys : List LiveObject). object_at ys n) c.as_slice.ensures in
    let holding : manager_holding (object_at os n).life ≡ Some m = ap (λ (y : LiveObject). manager_holding y.life) (sym read) ∙ sym c.manager_holding.ensures ∙ c.in-Some-manager_holding.is in
    let place : place_of (length os) c.args.object ≡ Some n =
    ap (λ k. place_of k c.args.object) (sym c.len.ensures) ∙ ap (place_of c.len.result) (sym (to_z-of_z c.ranges.object)) ∙ sym c.in-Some.ensures.place in
    held_so world s c.args.object (at_object c.args.call) c.args.call e c.at_work.new.session n m c.at_work.result place (holds (machine_of s) (object_at os n).life m holding) c.at_work.ensures.ends

pub returns-in-None-clause-step : goal.returns-in-None-clause-step
returns-in-None-clause-step g c = λ e.
    let s = c.args.session.now in
    let os = s.work.objects.now in
    let world = world_of_unit g.B.Behaviour.meaning c.args.unit.now in
    let n = c.in-Some.place in
    let x = c.index-as_slice-place.result in
    let counted = c.len.ensures in
    let within = c.in-Some.ensures.within in
    let l : n < length os = omega (arith, counted, within) in
    let l' : n < length c.as_slice.result.now = subst (λ (ys : List LiveObject). n < length ys) (sym c.as_slice.ensures) l in
    let read : get_or c.as_slice.result.now n x ≡ object_at os n = get_or_default c.as_slice.result.now n x no_object l' ∙ ap (λ (ys : List LiveObject). object_at ys n) c.as_slice.ensures in
    let holding : manager_holding (object_at os n).life ≡ None = ap (λ (y : LiveObject). manager_holding y.life) (sym read) ∙ sym c.manager_holding.ensures ∙ c.in-None.is in
    let place : place_of (length os) c.args.object ≡ Some n =
    ap (λ k. place_of k c.args.object) (sym c.len.ensures) ∙ ap (place_of c.len.result) (sym (to_z-of_z c.ranges.object)) ∙ sym c.in-Some.ensures.place in
    held_so world s c.args.object (at_object c.args.call) c.args.call e c.unheld.new.session n (length s.managers.items) c.unheld.result place
    (holds_not (machine_of s) (object_at os n).life holding ∙ managers_count s) c.unheld.ensures.ends
