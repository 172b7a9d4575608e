use Rattle.std.proofs.Common.{◌≡◌, false, refl, ap, sym, subst, ◌∙◌}
use Rattle.std.specs.Prelude.{Some}
use Rattle.std.proofs.Math.Facts.{to_z-of_z}
use Rattle.std.proofs.lemmas.Bool.{true≢false}
use Rattle.jpa_behaviour.specs.Served.{world_of_unit}
use Rattle.jpa_protocol.specs.declared.call.Call.{Call}
use Rattle.jpa_provider.specs.declared.session.EntityManager.{EntityManager}
use Rattle.jpa_provider.specs.declared.session.Session.{Session}
use Rattle.jpa_provider.specs.declared.session.Status.{Status}
use Rattle.jpa_provider.specs.Serving.{is_begun_status, manager_in, named, Serves}
use Rattle.jpa_provider.proofs.Counted.{counted_same}
use Rattle.jpa_provider.proofs.Marked.{context_kept, same_marked}
use Rattle.jpa_provider.proofs.Opened.{begin_begins}
use Rattle.jpa_provider.proofs.Sessions.{idle_changed}
use Rattle.jpa_provider.proofs.Worked.{named_open}
use Rattle.jpa_provider.proofs.opening.begin_call.Goals as goal

pub returns-clause-step : goal.returns-clause-step
returns-clause-step g c =
    let world = world_of_unit g.B.Behaviour.meaning c.args._unit.now in
    let s = c.args.session.now in
    let m = c.in-Some.manager in
    let t : Session = record s { managers = c.set_status.new.managers } in
    let is : named s c.args.em ≡ Some m = ap (named s) (sym (to_z-of_z c.ranges.em)) ∙ sym c.in-Some.ensures.named in
    let shut : is_begun_status (manager_in s.managers.items m).status ≡ false = ap is_begun_status (sym c.status_of.ensures) ∙ sym c.is_begun.ensures ∙ c.if-is_begun.false in
    subst (λ r. Serves world s (Call.Begin c.args.em) r t) (sym c.accepted.ensures)
    (begin_begins world s t c.args.em m is shut ((c.requires.settled).idle m) c.set_status.ensures refl refl)

pub returns-clause-rest : goal.returns-clause-rest
returns-clause-rest g c =
    let s = c.args.session.now in
    let m = c.in-Some.manager in
    let t : Session = record s { managers = c.set_status.new.managers } in
    let is : named s c.args.em ≡ Some m = ap (named s) (sym (to_z-of_z c.ranges.em)) ∙ sym c.in-Some.ensures.named in
    let settled = c.requires.settled in
    let y : EntityManager = record (manager_in s.managers.items m) { status = Status.Active } in
    let within = c.in-Some.ensures.within in
    record {
      settled = record {
        kept = settled.kept;
        quiet = settled.quiet;
        resting = settled.resting;
        idle = idle_changed s.managers.items t.managers.items m y within c.set_status.ensures (λ none. absurd (true≢false none)) settled.idle;
        counted = counted_same s t m y settled.counted c.set_status.ensures (sym (named_open s c.args.em m is)) refl;
      };
      marked = same_marked c.args._unit.now.metamodel s t refl (context_kept s.managers.items t.managers.items m y within c.set_status.ensures refl) c.requires.marked;
    }
