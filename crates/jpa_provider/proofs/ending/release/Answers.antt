use Rattle.jpa_work.specs.context.Marks.{none_marked}
use Rattle.std.proofs.Common.{◌≡◌, ◌<◌, List, [], length, refl, ap, sym, subst, ◌∙◌}
use Rattle.std.specs.Prelude.{slice_set}
use Rattle.std.proofs.lemmas.List.{length-set}
use Rattle.jpa_open.specs.Opened.{no_layers}
use Rattle.jpa_provider.specs.declared.session.EntityManager.{EntityManager}
use Rattle.jpa_provider.specs.declared.session.Session.{Session}
use Rattle.jpa_provider.specs.declared.session.Status.{Status}
use Rattle.jpa_provider.specs.Serving.{manager_in}
use Rattle.jpa_provider.proofs.Counted.{counted_same, begun_is_open}
use Rattle.jpa_provider.proofs.Marked.{context_kept, same_marked}
use Rattle.jpa_provider.proofs.Opened.{ended_twice, rolled_there}
use Rattle.jpa_provider.proofs.Sessions.{idle_changed}
use Rattle.jpa_provider.proofs.ending.release.Goals as goal

pub returns-clause-released : goal.returns-clause-released
returns-clause-released c = λ settled begun.
    let s = c.args.session.now in
    let m = c.args.manager in
    let u = c.clear.new.session in
    let x : EntityManager = record (manager_in s.managers.items m) { context = record { now = []; since = []; marks = none_marked } } in
    let t : Session = record u { managers = c.end_transaction.new.managers } in
    let over : List EntityManager → List EntityManager = λ ys. slice_set ys m (record (manager_in ys m) { status = Status.Inactive; layers = no_layers }) in
    rolled_there s u t m begun c.clear.ensures.cleared.machine c.clear.ensures.cleared.view (c.end_transaction.ensures ∙ ap over c.clear.ensures.cleared.managers ∙ ended_twice s.managers.items m x c.requires.within) refl refl

pub returns-clause-settled : goal.returns-clause-settled
returns-clause-settled c = λ before begun.
    let s = c.args.session.now in
    let m = c.args.manager in
    let xs = s.managers.items in
    let u = c.clear.new.session in
    let settled = c.clear.ensures.settled before in
    let x : EntityManager = record (manager_in xs m) { context = record { now = []; since = []; marks = none_marked } } in
    let y : EntityManager = record x { status = Status.Inactive; layers = no_layers } in
    let t : Session = record u { managers = c.end_transaction.new.managers } in
    let over : List EntityManager → List EntityManager = λ ys. slice_set ys m (record (manager_in ys m) { status = Status.Inactive; layers = no_layers }) in
    let e : t.managers.items ≡ slice_set xs m y = c.end_transaction.ensures ∙ ap over c.clear.ensures.cleared.managers ∙ ended_twice xs m x c.requires.within in
    record {
      kept = settled.kept;
      quiet = settled.quiet;
      resting = settled.resting;
      idle = idle_changed xs t.managers.items m y c.requires.within e (λ none. refl) before.idle;
      counted = counted_same s t m y before.counted e (sym (begun_is_open (manager_in xs m) begun)) c.clear.ensures.cleared.places;
    }

pub returns-clause-marked : goal.returns-clause-marked
returns-clause-marked c = λ world machine all.
    let m = c.args.manager in
    let u = c.clear.new.session in
    let xs = c.args.session.now.managers.items in
    let x : EntityManager = record (manager_in xs m) { context = record { now = []; since = []; marks = none_marked } } in
    let within = subst (λ n. m < n) (sym (ap (λ (ys : List EntityManager). length ys) c.clear.ensures.cleared.managers ∙ length-set xs m x)) c.requires.within in
    let y : EntityManager = record (manager_in u.managers.items m) { status = Status.Inactive; layers = no_layers } in
    let t : Session = record u { managers = c.end_transaction.new.managers } in
    same_marked world.model u t refl (context_kept u.managers.items t.managers.items m y within c.end_transaction.ensures refl) (c.clear.ensures.marked world machine all)
