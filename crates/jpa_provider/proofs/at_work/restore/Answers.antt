use Rattle.std.proofs.Common.{◌≡◌, List, refl, ap, sym, ◌∙◌}
use Rattle.std.specs.Prelude.{slice_set, length}
use Rattle.std.proofs.lemmas.List.{length-set}
use Rattle.jpa_open.specs.Opened.{Opened}
use Rattle.jpa_work.specs.context.Marks.{Entries}
use Rattle.jpa_work.specs.context.Work.{Work}
use Rattle.jpa_provider.specs.declared.session.EntityManager.{EntityManager}
use Rattle.jpa_provider.specs.declared.session.Session.{Session}
use Rattle.jpa_provider.specs.Serving.{is_begun_status, manager_in}
use Rattle.jpa_provider.proofs.Counted.{counted_same}
use Rattle.jpa_provider.proofs.Marked.{marked_back}
use Rattle.jpa_provider.proofs.Sessions.{placed, elsewhere, both_set, left_undoing, restored_back, seen_back, settled_back}
use Rattle.jpa_provider.proofs.at_work.restore.Goals as goal

pub returns-clause-back : goal.returns-clause-back
returns-clause-back c = λ M working.
    let s = c.args.session.now in
    let m = c.args.manager in
    let xs = s.managers.items in
    let x = manager_in xs m in
    let u = c.undo.new.self in
    let left = left_undoing (is_begun_status x.status) s.work.view u.view c.undo.ensures.view in
    let turned = c.exchange_if_begun.ensures in
    let with : List EntityManager → List EntityManager = λ ys. slice_set ys m (record (manager_in ys m) { context = u.context }) in
    let t : Session = record s { managers = c.exchange.new.managers; work = record u { context = c.keep.new.self; view = c.exchange_if_begun.new.view } } in
    let e : t.managers.items ≡ slice_set xs m (record x { layers = turned.layers; context = u.context }) =
    c.exchange.ensures.managers ∙ ap with turned.managers ∙ both_set xs m turned.layers u.context c.requires.within in
    let same = c.undo.ensures.now in
    restored_back M s t m u.view u.context c.exchange_if_begun.new.managers.items working.away left turned e working refl (ap (λ (v : Opened). v.kept) c.undo.ensures.view)
    (ap (λ (w : Work). w.objects) same) (ap (λ (w : Work). w.numbers) same) (ap (λ (w : Work). w.context) same)

pub returns-clause-undone : goal.returns-clause-undone
returns-clause-undone c =
    let xs = c.args.session.now.managers.items in
    let m = c.args.manager in
    let u = c.undo.new.self in
    let zs = c.exchange_if_begun.new.managers.items in
    let turned = c.exchange_if_begun.ensures in
    let with : List EntityManager → List EntityManager = λ ys. slice_set ys m (record (manager_in ys m) { context = u.context }) in
    record {
      count = ap length c.exchange.ensures.managers ∙ length-set zs m (record (manager_in zs m) { context = u.context })
          ∙ ap length turned.managers ∙ length-set xs m (record (manager_in xs m) { layers = turned.layers });
      objects = ap (λ (w : Work). w.objects) c.undo.ensures.now;
      context = ap (λ ys. (manager_in ys m).context.now) (c.exchange.ensures.managers ∙ ap with turned.managers ∙ both_set xs m turned.layers u.context c.requires.within)
          ∙ ap (λ (y : EntityManager). y.context.now) (placed xs m (record (manager_in xs m) { layers = turned.layers; context = u.context }) c.requires.within)
          ∙ ap (λ (w : Work). w.context) c.undo.ensures.now;
    }

pub returns-clause-settled : goal.returns-clause-settled
returns-clause-settled c = λ M working.
    let s = c.args.session.now in
    let m = c.args.manager in
    let xs = s.managers.items in
    let x = manager_in xs m in
    let u = c.undo.new.self in
    let left = left_undoing (is_begun_status x.status) s.work.view u.view c.undo.ensures.view in
    let turned = c.exchange_if_begun.ensures in
    let with : List EntityManager → List EntityManager = λ ys. slice_set ys m (record (manager_in ys m) { context = u.context }) in
    let t : Session = record s { managers = c.exchange.new.managers; work = record u { context = c.keep.new.self; view = c.exchange_if_begun.new.view } } in
    let e : t.managers.items ≡ slice_set xs m (record x { layers = turned.layers; context = u.context }) =
    c.exchange.ensures.managers ∙ ap with turned.managers ∙ both_set xs m turned.layers u.context c.requires.within in
    let zs = c.exchange_if_begun.new.managers.items in
    let kept = c.undo.ensures.kept in
    settled_back M s t m u.view u.context zs working.away left turned e
    (record {
      objects = kept.objects;
      context = c.keep.ensures.since ∙ sym c.keep.ensures.now;
      numbers = kept.numbers;
      view = seen_back M s t m u.view u.context zs working.away left turned e;
    })
    (ap (λ (w : Work). w.events) c.undo.ensures.now)
    (counted_same s t m (record x { layers = turned.layers; context = u.context }) (working.away).counted e refl refl)

pub returns-clause-marked : goal.returns-clause-marked
returns-clause-marked c = λ model M working marked.
    let s = c.args.session.now in
    let m = c.args.manager in
    let xs = s.managers.items in
    let x = manager_in xs m in
    let u = c.undo.new.self in
    let left = left_undoing (is_begun_status x.status) s.work.view u.view c.undo.ensures.view in
    let turned = c.exchange_if_begun.ensures in
    let y : EntityManager = record x { layers = turned.layers; context = u.context } in
    let with : List EntityManager → List EntityManager = λ ys. slice_set ys m (record (manager_in ys m) { context = u.context }) in
    let t : Session = record s { managers = c.exchange.new.managers; work = record u { context = c.keep.new.self; view = c.exchange_if_begun.new.view } } in
    let e : t.managers.items ≡ slice_set xs m y =
    c.exchange.ensures.managers ∙ ap with turned.managers ∙ both_set xs m turned.layers u.context c.requires.within in
    let same = c.undo.ensures.now in
    let home : (manager_in t.managers.items m).context ≡ u.context = ap (λ ys. (manager_in ys m).context) e ∙ ap (λ (z : EntityManager). z.context) (placed xs m y c.requires.within) in
    marked_back model M m s t
    (restored_back M s t m u.view u.context c.exchange_if_begun.new.managers.items working.away left turned e working refl (ap (λ (v : Opened). v.kept) c.undo.ensures.view)
    (ap (λ (w : Work). w.objects) same) (ap (λ (w : Work). w.numbers) same) (ap (λ (w : Work). w.context) same))
    working marked (ap (λ (z : Entries). z.marks) home ∙ c.undo.ensures.marks)
    (λ k n. ap (λ (z : EntityManager). (z.context).marks) (ap (λ ys. manager_in ys k) e ∙ elsewhere xs m k y n))
