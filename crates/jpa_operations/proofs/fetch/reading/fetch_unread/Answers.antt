use Rattle.std.proofs.Common.{◌≡◌, ◌∙◌, ap, sym, subst, true, rules}
use Rattle.std.proofs.lemmas.Result.{err_from_is_err_and}
use Rattle.jpa_value.specs.declared.refusal.Cause.{Cause}
use Rattle.jpa_behaviour.specs.Served.{world_of_unit}
use Rattle.jpa_work.specs.context.Steps.{Done, IsRefusedAs}
use Rattle.jpa_work.specs.context.Undo.{now}
use Rattle.jpa_work.specs.context.Work.{state_of}
use Rattle.jpa_operations.specs.fetch.Load.{reach}
use Rattle.jpa_operations.specs.fetch.Members.{collect, is_held}
use Rattle.jpa_operations.proofs.fetch.Unread.{fetches_done, fetches_refused}
use Rattle.jpa_operations.proofs.fetch.reading.fetch_unread.Goals as goal

-- a member is refused
pub returns-in_err-places-clause-carries : goal.returns-in_err-places-clause-carries
returns-in_err-places-clause-carries g c =
    let world = world_of_unit g.B.Behaviour.meaning c.args.unit.now in
    let w = now c.args.work.now in
    let n = c.args.object in
    let ids = c.in_ok-ids.ids in
    let cause = c.in_err-places.field-0.0 in
    let events = (now c.reach_all.new.work).events in
    let held : is_held (state_of w n) ≡ true = sym c.is_held.ensures ∙ c.if-not-is_held.false in
    let p = err_from_is_err_and c.from_residual-in_err-places.result c.from_residual-in_err-places.ensures.1 in
    record {
      meets = rw (p.1, p.2)
          (fetches_refused world n c.args.relation w ids held c.in_ok-ids.ensures.ok cause events
          (subst (λ is. IsRefusedAs cause events (collect (reach world Cause.EntityNotFound) is w)) c.as_slice.ensures c.in_err-places.ensures.carries.meets));
      view = search rules;
      since = search rules;
    }

-- or all were reached
pub returns-clause-carries : goal.returns-clause-carries
returns-clause-carries g c =
    let world = world_of_unit g.B.Behaviour.meaning c.args.unit.now in
    let w = now c.args.work.now in
    let n = c.args.object in
    let r = c.args.relation in
    let ids = c.in_ok-ids.ids in
    let ks = c.in_ok-places.places in
    let u = now c.reach_all.new.work in
    let v = now c.set_fetched.new.work in
    let held : is_held (state_of w n) ≡ true = sym c.is_held.ensures ∙ c.if-not-is_held.false in
    let done : collect (reach world Cause.EntityNotFound) ids w ≡ Done ks u = sym (ap (λ is. collect (reach world Cause.EntityNotFound) is w) c.as_slice.ensures) ∙ c.in_ok-places.ensures.carries.meets in
    record {
      meets = fetches_done world n r w ids held c.in_ok-ids.ensures.ok ks c.as_slice-2.result.now u v done c.as_slice-2.ensures c.in_ok-set_fetched.ensures.ok;
      view = search rules;
      since = search rules;
    }
