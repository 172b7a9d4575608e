use Rattle.std.proofs.Common.{◌≡◌, rules, ap, subst}
use Rattle.std.proofs.lemmas.Result.{err_from_is_err_and}
use Rattle.jpa_behaviour.specs.Behaviour.{World}
use Rattle.jpa_behaviour.specs.Served.{world_of_unit}
use Rattle.jpa_work.specs.declared.context.Lock.{Lock}
use Rattle.jpa_work.specs.context.Steps.{Done, IsRefusedAs, after, give}
use Rattle.jpa_work.specs.context.Undo.{now}
use Rattle.jpa_work.specs.context.Work.{Work}
use Rattle.jpa_operations.specs.ops.States.{lock}
use Rattle.jpa_operations.proofs.ops.Refused.{refused_after}
use Rattle.jpa_machine.specs.machine.Calls.{nothing}
use Rattle.jpa_machine.specs.machine.Routes.{lock_of}
use Rattle.jpa_provider.proofs.operating.lock_at.Goals as goal

pub returns : goal.returns
returns g c =
    let world : World = world_of_unit g.B.Behaviour.meaning c.args.unit.now in
    let w : Work = now c.args.work.now in
    let done = subst (λ (l : Lock). lock world c.args.place l w ≡ Done tt (now c.lock.new.work)) c.lock_of.ensures (c.in_ok-lock.ensures.meets world) in
    record {
      meets = ap (λ o. after o (λ u. give (nothing u))) done;
      view = search rules;
      since = search rules;
    }

pub returns-in_err-lock : goal.returns-in_err-lock
returns-in_err-lock g c =
    let world : World = world_of_unit g.B.Behaviour.meaning c.args.unit.now in
    let w : Work = now c.args.work.now in
    let r = c.in_err-lock.field-0.0 in
    let events = (now c.lock.new.work).events in
    let refused : IsRefusedAs r events (lock world c.args.place (lock_of c.args.mode) w) = subst (λ (l : Lock). IsRefusedAs r events (lock world c.args.place l w)) c.lock_of.ensures (c.in_err-lock.ensures.meets world) in
    let p = err_from_is_err_and c.from_residual.result c.from_residual.ensures.1 in
    record {
      meets = rw (p.1, p.2) (refused_after r events (lock world c.args.place (lock_of c.args.mode) w) (λ u. give (nothing u)) refused);
      view = search rules;
      since = search rules;
    }
