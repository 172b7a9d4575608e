use Rattle.jpa_work.specs.context.Marks.{none_marked}
use Rattle.std.proofs.Common.{◌≡◌, ◌<◌, List, [], length, refl, ap, sym, subst, ◌∙◌}
use Rattle.std.specs.Prelude.{◌==◌, filter, not, slice_set}
use Rattle.std.proofs.lemmas.List.{length-set}
use Rattle.jpa_provider.specs.declared.session.EntityManager.{EntityManager}
use Rattle.jpa_provider.specs.declared.session.Session.{Session}
use Rattle.jpa_provider.specs.declared.session.Status.{Status}
use Rattle.jpa_provider.specs.Serving.{manager_in}
use Rattle.jpa_provider.proofs.Marked.{context_kept, same_marked}
use Rattle.jpa_provider.proofs.Opened.{twice}
use Rattle.jpa_provider.proofs.Closing.{shut_there}
use Rattle.jpa_provider.proofs.Counted.{counted_closed}
use Rattle.jpa_provider.proofs.Sessions.{idle_changed}
use Rattle.jpa_provider.proofs.ending.shut.Goals as goal

pub returns-clause-closed : goal.returns-clause-closed
returns-clause-closed c =
    let s = c.args.session.now in
    let m = c.args.manager in
    let u = c.clear.new.session in
    let x : EntityManager = record (manager_in s.managers.items m) { context = record { now = []; since = []; marks = none_marked } } in
    let t : Session = record u { managers = c.set_status.new.managers; open_places = c.leave.new.places } in
    let status : List EntityManager → List EntityManager = λ ys. slice_set ys m (record (manager_in ys m) { status = Status.Closed }) in
    shut_there s u t m c.requires.idle c.clear.ensures.cleared.machine c.clear.ensures.cleared.view (c.set_status.ensures ∙ ap status c.clear.ensures.cleared.managers ∙ twice s.managers.items m x Status.Closed c.requires.manager.within) refl refl

pub returns-clause-settled : goal.returns-clause-settled
returns-clause-settled c =
    let s = c.args.session.now in
    let m = c.args.manager in
    let u = c.clear.new.session in
    let settled = c.clear.ensures.settled c.requires.settled in
    let x : EntityManager = record (manager_in s.managers.items m) { context = record { now = []; since = []; marks = none_marked } } in
    let t : Session = record u { managers = c.set_status.new.managers; open_places = c.leave.new.places } in
    let status : List EntityManager → List EntityManager = λ ys. slice_set ys m (record (manager_in ys m) { status = Status.Closed }) in
    let xs = s.managers.items in
    let y : EntityManager = record x { status = Status.Closed } in
    let e : t.managers.items ≡ slice_set xs m y = c.set_status.ensures ∙ ap status c.clear.ensures.cleared.managers ∙ twice xs m x Status.Closed c.requires.manager.within in
    record {
      kept = settled.kept;
      quiet = settled.quiet;
      resting = settled.resting;
      idle = idle_changed xs t.managers.items m y c.requires.manager.within e (λ none. (c.requires.settled).idle m c.requires.idle) (c.requires.settled).idle;
      counted = counted_closed s t m y c.requires.manager.within (c.requires.settled).counted e refl (c.leave.ensures ∙ ap (filter (λ n. not (n == m))) c.clear.ensures.cleared.places);
    }

pub returns-clause-marked : goal.returns-clause-marked
returns-clause-marked c = λ world machine all.
    let m = c.args.manager in
    let u = c.clear.new.session in
    let xs = c.args.session.now.managers.items in
    let x : EntityManager = record (manager_in xs m) { context = record { now = []; since = []; marks = none_marked } } in
    let within = subst (λ n. m < n) (sym (ap (λ (ys : List EntityManager). length ys) c.clear.ensures.cleared.managers ∙ length-set xs m x)) c.requires.manager.within in
    let y : EntityManager = record (manager_in u.managers.items m) { status = Status.Closed } in
    let t : Session = record u { managers = c.set_status.new.managers; open_places = c.leave.new.places } in
    same_marked world.model u t refl (context_kept u.managers.items t.managers.items m y within c.set_status.ensures refl) (c.clear.ensures.marked world machine all)
