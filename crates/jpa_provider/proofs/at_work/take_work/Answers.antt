use Rattle.jpa_work.specs.context.Marks.{Entries}
use Rattle.std.proofs.Common.{◌≡◌, List, refl, ap, sym, ◌∙◌}
use Rattle.std.specs.Prelude.{slice_set}
use Rattle.jpa_work.specs.context.Undo.{now}
use Rattle.jpa_provider.specs.declared.session.EntityManager.{EntityManager}
use Rattle.jpa_provider.specs.declared.session.Session.{Session}
use Rattle.jpa_provider.specs.Serving.{manager_in}
use Rattle.jpa_provider.proofs.Counted.{counted_same}
use Rattle.jpa_provider.proofs.Marked.{marked_away}
use Rattle.jpa_provider.proofs.Sessions.{placed, elsewhere, both_set, seen_taken, taken_works, taken_work}
use Rattle.jpa_provider.proofs.at_work.take_work.Goals as goal

pub returns-clause-working : goal.returns-clause-working
returns-clause-working c =
    let s = c.args.session.now in
    let m = c.args.manager in
    let u = s.work in
    let xs = s.managers.items in
    let l = c.requires.within in
    let turned = c.exchange_if_begun.ensures in
    let with : List EntityManager → List EntityManager = λ ys. slice_set ys m (record (manager_in ys m) { context = u.context }) in
    let t : Session = record s { managers = c.exchange.new.managers; work = record u { manager = m; context = c.keep.new.self; view = c.exchange_if_begun.new.view } } in
    let e : t.managers.items ≡ slice_set xs m (record (manager_in xs m) { layers = turned.layers; context = u.context }) =
    c.exchange.ensures.managers ∙ ap with turned.managers ∙ both_set xs m turned.layers u.context l in
    let context : c.exchange.new.context ≡ (manager_in xs m).context =
    c.exchange.ensures.context ∙ ap (λ ys. (manager_in ys m).context) turned.managers ∙ ap (λ (x : EntityManager). x.context) (placed xs m (record (manager_in xs m) { layers = turned.layers }) l) in
    taken_works s t m u.context c.exchange_if_begun.new.managers.items l turned e c.requires.settled
    (counted_same s t m (record (manager_in xs m) { layers = turned.layers; context = u.context }) ((c.requires.settled).counted) e refl refl)
    refl refl (c.keep.ensures.since ∙ ap (λ (x : Entries). x.now) context) refl

pub returns-clause-work : goal.returns-clause-work
returns-clause-work c =
    let s = c.args.session.now in
    let m = c.args.manager in
    let u = s.work in
    let xs = s.managers.items in
    let l = c.requires.within in
    let turned = c.exchange_if_begun.ensures in
    let with : List EntityManager → List EntityManager = λ ys. slice_set ys m (record (manager_in ys m) { context = u.context }) in
    let t : Session = record s { managers = c.exchange.new.managers; work = record u { manager = m; context = c.keep.new.self; view = c.exchange_if_begun.new.view } } in
    let e : t.managers.items ≡ slice_set xs m (record (manager_in xs m) { layers = turned.layers; context = u.context }) =
    c.exchange.ensures.managers ∙ ap with turned.managers ∙ both_set xs m turned.layers u.context l in
    let context : c.exchange.new.context ≡ (manager_in xs m).context =
    c.exchange.ensures.context ∙ ap (λ ys. (manager_in ys m).context) turned.managers ∙ ap (λ (x : EntityManager). x.context) (placed xs m (record (manager_in xs m) { layers = turned.layers }) l) in
    taken_work s t m u.context c.exchange_if_begun.new.managers.items l turned e c.requires.settled (now t.work)
    (λ i. record {
      manager = m;
      objects = u.objects.now;
      context = (c.keep.ensures.now ∙ ap (λ (x : Entries). x.now) context) i;
      numbers = u.numbers.now;
      view = (t.work.view).seen;
      events = u.events;
    })

pub returns-clause-kept : goal.returns-clause-kept
returns-clause-kept c =
    let s = c.args.session.now in
    let m = c.args.manager in
    let u = s.work in
    let xs = s.managers.items in
    let l = c.requires.within in
    let turned = c.exchange_if_begun.ensures in
    let with : List EntityManager → List EntityManager = λ ys. slice_set ys m (record (manager_in ys m) { context = u.context }) in
    let t : Session = record s { managers = c.exchange.new.managers; work = record u { manager = m; context = c.keep.new.self; view = c.exchange_if_begun.new.view } } in
    let e : t.managers.items ≡ slice_set xs m (record (manager_in xs m) { layers = turned.layers; context = u.context }) =
    c.exchange.ensures.managers ∙ ap with turned.managers ∙ both_set xs m turned.layers u.context l in
    let kept = (c.requires.settled).kept in
    record {
      objects = kept.objects;
      context = c.keep.ensures.since ∙ sym c.keep.ensures.now;
      numbers = kept.numbers;
      view = seen_taken s t m u.context c.exchange_if_begun.new.managers.items l turned e c.requires.settled;
    }

pub returns-clause-marked : goal.returns-clause-marked
returns-clause-marked c = λ model marked.
    let s = c.args.session.now in
    let m = c.args.manager in
    let u = s.work in
    let xs = s.managers.items in
    let l = c.requires.within in
    let turned = c.exchange_if_begun.ensures in
    let with : List EntityManager → List EntityManager = λ ys. slice_set ys m (record (manager_in ys m) { context = u.context }) in
    let t : Session = record s { managers = c.exchange.new.managers; work = record u { manager = m; context = c.keep.new.self; view = c.exchange_if_begun.new.view } } in
    let e : t.managers.items ≡ slice_set xs m (record (manager_in xs m) { layers = turned.layers; context = u.context }) =
    c.exchange.ensures.managers ∙ ap with turned.managers ∙ both_set xs m turned.layers u.context l in
    let context : c.exchange.new.context ≡ (manager_in xs m).context =
    c.exchange.ensures.context ∙ ap (λ ys. (manager_in ys m).context) turned.managers ∙ ap (λ (x : EntityManager). x.context) (placed xs m (record (manager_in xs m) { layers = turned.layers }) l) in
    marked_away model s t m (c.requires.settled).kept refl refl (c.keep.ensures.since ∙ ap (λ (x : Entries). x.now) context) (c.keep.ensures.marks ∙ ap (λ (x : Entries). x.marks) context)
    (λ k n. ap (λ (x : EntityManager). (x.context).marks) (ap (λ ys. manager_in ys k) e ∙ elsewhere xs m k (record (manager_in xs m) { layers = turned.layers; context = u.context }) n))
    marked
