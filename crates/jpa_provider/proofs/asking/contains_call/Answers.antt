use Rattle.std.proofs.Common.{◌≡◌, ◌<◌, List, length, get_or, ap, sym, subst, ◌∙◌, arith}
use Rattle.std.specs.Prelude.{Some, None}
use Rattle.std.proofs.Math.Facts.{to_z-of_z}
use Rattle.std.proofs.lemmas.List.{get_or_default}
use Rattle.jpa_behaviour.specs.Served.{world_of_unit}
use Rattle.jpa_work.specs.declared.heap.LiveObject.{LiveObject}
use Rattle.jpa_work.specs.heap.Objects.{object_at, no_object, place_of}
use Rattle.jpa_work.specs.context.Work.{is_managed, state_from}
use Rattle.jpa_protocol.specs.declared.call.Call.{Call}
use Rattle.jpa_provider.specs.Serving.{named, Serves}
use Rattle.jpa_provider.proofs.Asked.{contains_unknown, contains_told}
use Rattle.jpa_provider.proofs.asking.contains_call.Goals as goal

pub returns-in_default-place_of-clause-step : goal.returns-in_default-place_of-clause-step
returns-in_default-place_of-clause-step g c =
    let world = world_of_unit g.B.Behaviour.meaning c.args._unit.now in
    let s = c.args.session.now in
    let em = c.args.em in
    let m = c.in-Some.manager in
    let is : named s em ≡ Some m = ap (named s) (sym (to_z-of_z c.ranges.em)) ∙ sym c.in-Some.ensures.named in
    let place : place_of (length s.work.objects.now) c.args.object ≡ None =
    ap (λ k. place_of k c.args.object) (sym c.len.ensures) ∙ ap (place_of c.len.result) (sym (to_z-of_z c.ranges.object)) ∙ sym c.in_default-place_of.ensures.place in
    subst (λ r. Serves world s (Call.Contains em c.args.object) r s) (sym c.because-in_default-place_of.ensures)
    (contains_unknown world s em c.args.object m is place)

pub returns-clause-step : goal.returns-clause-step
returns-clause-step g c =
    let world = world_of_unit g.B.Behaviour.meaning c.args._unit.now in
    let s = c.args.session.now in
    let os = s.work.objects.now in
    let em = c.args.em in
    let m = c.in-Some.manager in
    let n = c.in-Some-place_of.place in
    let x = c.index-as_slice-place.result in
    let counted = c.len.ensures in
    let within = c.in-Some-place_of.ensures.within in
    let l : n < length os = omega (arith, counted, within) in
    let l' : n < length c.as_slice.result.now = subst (λ (ys : List LiveObject). n < length ys) (sym c.as_slice.ensures) l in
    let read : get_or c.as_slice.result.now n x ≡ object_at os n = get_or_default c.as_slice.result.now n x no_object l' ∙ ap (λ (ys : List LiveObject). object_at ys n) c.as_slice.ensures in
    let is : named s em ≡ Some m = ap (named s) (sym (to_z-of_z c.ranges.em)) ∙ sym c.in-Some.ensures.named in
    let place : place_of (length os) c.args.object ≡ Some n =
    ap (λ k. place_of k c.args.object) (sym c.len.ensures) ∙ ap (place_of c.len.result) (sym (to_z-of_z c.ranges.object)) ∙ sym c.in-Some-place_of.ensures.place in
    let same : c.is_managed_by.result ≡ is_managed (state_from m (object_at os n).life) = c.is_managed_by.ensures ∙ ap (λ (y : LiveObject). is_managed (state_from m y.life)) read in
    subst (λ r. Serves world s (Call.Contains em c.args.object) r s) (sym c.accepted.ensures)
    (contains_told world s em c.args.object m n c.is_managed_by.result is place same)
