use Rattle.std.proofs.Common.{◌≡◌, ◌<◌, ◌+◌, suc, length, refl, ap, sym, subst, ◌∙◌, arith}
use Rattle.jpa_value.specs.Limits.{most_managers, most_open_managers}
use Rattle.jpa_behaviour.specs.Served.{world_of_unit}
use Rattle.jpa_protocol.specs.declared.call.Call.{Call}
use Rattle.jpa_protocol.specs.declared.reply.Answer.{Answer}
use Rattle.jpa_protocol.specs.declared.reply.Reply.{Reply}
use Rattle.jpa_provider.specs.declared.session.EntityManager.{EntityManager}
use Rattle.jpa_provider.specs.declared.session.Session.{Session}
use Rattle.jpa_provider.specs.Serving.{manager_in, nobody, Serves}
use Rattle.jpa_provider.proofs.Counted.{counted_here, counted_made}
use Rattle.jpa_provider.proofs.Marked.{context_made, same_marked}
use Rattle.jpa_provider.proofs.Opened.{created, many_made, many_open, not_created, told}
use Rattle.jpa_provider.proofs.Sessions.{idle_made, idle_here}
use Rattle.jpa_provider.specs.declared.session.Status.{Status}
use Rattle.jpa_protocol.specs.declared.call.FlushMode.{FlushMode}
use Rattle.jpa_provider.proofs.opening.create_call.Goals as goal

pub returns-then-len-ge-MOST_OPEN_MANAGERS-clause-step : goal.returns-then-len-ge-MOST_OPEN_MANAGERS-clause-step
returns-then-len-ge-MOST_OPEN_MANAGERS-clause-step g c =
    let world = world_of_unit g.B.Behaviour.meaning c.args._unit.now in
    let s = c.args.session.now in
    let opened = length s.open_places.items in
    let made = length s.managers.items in
    subst (λ (reply : Reply). Serves world s Call.CreateEntityManager reply s) (sym c.because.ensures) (not_created world s (c.requires.settled).counted
    (elim c.then-len-ge-MOST_OPEN_MANAGERS.branch [
      | goal.then-len-ge-MOST_OPEN_MANAGERS-via-then-len-ge-MOST_OPEN_MANAGERS w ↦ many_open opened made (omega arith)
      | goal.then-len-ge-MOST_OPEN_MANAGERS-via-else-len-ge-MOST_OPEN_MANAGERS+then-count-ge-MOST_MANAGERS w ↦ many_made opened made (omega arith)
    ]))

pub returns-clause-step : goal.returns-clause-step
returns-clause-step g c =
    let world = world_of_unit g.B.Behaviour.meaning c.args._unit.now in
    let s = c.args.session.now in
    let t : Session = record s { managers = c.add_manager.new.managers; open_places = c.add_manager.new.places } in
    let x : EntityManager = record { status = Status.Inactive; mode = FlushMode.Auto; context = c.new.result; layers = c.new-2.result } in
    let few : length s.open_places.items < most_open_managers = omega arith in
    let more : length s.managers.items < most_managers = omega arith in
    let number : c.len-count.result + 1 ≡ suc (length s.managers.items) = omega arith in
    subst (λ (reply : Reply). Serves world s Call.CreateEntityManager reply t) (sym (c.accepted.ensures ∙ ap (λ n. told (Answer.Number n)) number))
    (created world s t x (c.requires.settled).counted few more c.in_default.ensures.managers refl refl c.new.ensures.now refl refl)

pub returns-in-Err-clause-rest : goal.returns-in-Err-clause-rest
returns-in-Err-clause-rest g c =
    let s = c.args.session.now in
    let t : Session = record s { managers = c.add_manager.new.managers; open_places = c.add_manager.new.places } in
    let settled = c.requires.settled in
    let same = c.in-Err.ensures.managers in
    record {
      settled = record {
        kept = settled.kept;
        quiet = settled.quiet;
        resting = settled.resting;
        idle = idle_here s.managers.items t.managers.items same settled.idle;
        counted = counted_here s t settled.counted same c.in-Err.ensures.places;
      };
      marked = same_marked c.args._unit.now.metamodel s t refl (λ k. ap (λ ys. (manager_in ys k).context) same) c.requires.marked;
    }

pub returns-clause-rest : goal.returns-clause-rest
returns-clause-rest g c =
    let s = c.args.session.now in
    let t : Session = record s { managers = c.add_manager.new.managers; open_places = c.add_manager.new.places } in
    let settled = c.requires.settled in
    let x : EntityManager = record { status = Status.Inactive; mode = FlushMode.Auto; context = c.new.result; layers = c.new-2.result } in
    let fresh : x.context ≡ nobody.context = λ i. record { now = c.new.ensures.now i; since = c.new.ensures.since i; marks = c.new.ensures.marks i } in
    let more = c.in_default.ensures.managers in
    record {
      settled = record {
        kept = settled.kept;
        quiet = settled.quiet;
        resting = settled.resting;
        idle = idle_made s.managers.items t.managers.items x more (λ none. c.new-2.ensures) settled.idle;
        counted = counted_made s t x settled.counted more refl c.in_default.ensures.places;
      };
      marked = same_marked c.args._unit.now.metamodel s t refl (context_made s.managers.items t.managers.items x more fresh) c.requires.marked;
    }
