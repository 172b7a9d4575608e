use Rattle.std.proofs.Common.{Bool, true, false, ap, sym, subst, ◌≡◌, ◌∙◌, List}
use Rattle.std.specs.List.{list_any}
use Rattle.jpa_behaviour.specs.Served.{world_of_unit}
use Rattle.jpa_protocol.specs.declared.call.Call.{Call}
use Rattle.jpa_protocol.specs.declared.reply.Reply.{Reply}
use Rattle.jpa_provider.specs.declared.session.EntityManager.{EntityManager}
use Rattle.jpa_provider.specs.Serving.{is_begun_status, Serves}
use Rattle.jpa_provider.proofs.Own.{restart_active, restart_restarts}
use Rattle.jpa_provider.proofs.restarting.restart_call.Goals as goal

pub returns-then-any_begun-clause-step : goal.returns-then-any_begun-clause-step
returns-then-any_begun-clause-step g c =
    let world = world_of_unit g.B.Behaviour.meaning c.args._unit.now in
    let s = c.args.session.now in
    let any : List EntityManager → Bool = list_any (λ (x : EntityManager). is_begun_status x.status) in
    let begun : any s.managers.items ≡ true = ap any (sym c.as_slice.ensures.value) ∙ sym c.any_begun.ensures ∙ c.if-any_begun.true in
    subst (λ (reply : Reply). Serves world s Call.Restart reply s) (sym c.because.ensures) (restart_active world s begun)

pub returns-clause-step : goal.returns-clause-step
returns-clause-step g c =
    let world = world_of_unit g.B.Behaviour.meaning c.args._unit.now in
    let s = c.args.session.now in
    let t = c.forget.new.session in
    let any : List EntityManager → Bool = list_any (λ (x : EntityManager). is_begun_status x.status) in
    let none : any s.managers.items ≡ false = ap any (sym c.as_slice.ensures.value) ∙ sym c.any_begun.ensures ∙ c.if-any_begun.false in
    subst (λ (reply : Reply). Serves world s Call.Restart reply t) (sym c.accepted.ensures) (restart_restarts world s t none c.forget.ensures.machine)
