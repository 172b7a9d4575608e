use Rattle.std.proofs.Common.{◌≡◌, List, refl, ap, sym, ◌∙◌}
use Rattle.std.specs.Prelude.{slice_set}
use Rattle.jpa_open.specs.Opened.{Opened, after_keeping}
use Rattle.jpa_work.specs.context.Marks.{Entries}
use Rattle.jpa_provider.specs.declared.session.EntityManager.{EntityManager}
use Rattle.jpa_provider.specs.declared.session.Session.{Session}
use Rattle.jpa_provider.specs.Serving.{is_begun_status, manager_in}
use Rattle.jpa_provider.proofs.Counted.{counted_same}
use Rattle.jpa_provider.proofs.Marked.{marked_on}
use Rattle.jpa_provider.proofs.Sessions.{both_set, elsewhere, placed, left_keeping, kept_back, seen_back, settled_back, kept_objects, kept_context, kept_numbers, kept_events}
use Rattle.jpa_provider.proofs.at_work.keep_work.Goals as goal

pub returns-clause-kept : goal.returns-clause-kept
returns-clause-kept c = λ M away.
    let s = c.args.session.now in
    let m = c.args.manager in
    let xs = s.managers.items in
    let x = manager_in xs m in
    let u = c.keep.new.self in
    let begun : c.is_begun-is_begun.result ≡ is_begun_status x.status = c.is_begun-is_begun.ensures ∙ ap is_begun_status c.status_of.ensures in
    let view : u.view ≡ after_keeping (is_begun_status x.status) s.work.view = c.keep.ensures.view ∙ ap (λ b. after_keeping b s.work.view) begun in
    let left = left_keeping (is_begun_status x.status) s.work.view u.view view in
    let turned = c.exchange_if_begun.ensures in
    let with : List EntityManager → List EntityManager = λ ys. slice_set ys m (record (manager_in ys m) { context = u.context }) in
    let t : Session = record s { managers = c.exchange.new.managers; work = record u { context = c.keep-2.new.self; view = c.exchange_if_begun.new.view } } in
    let e : t.managers.items ≡ slice_set xs m (record x { layers = turned.layers; context = u.context }) =
    c.exchange.ensures.managers ∙ ap with turned.managers ∙ both_set xs m turned.layers u.context c.requires.within in
    let same = c.keep.ensures.now in
    let b = c.is_begun-is_begun.result in
    kept_back M s t m u.view u.context c.exchange_if_begun.new.managers.items away left turned e refl
    (λ q. ap (λ (v : Opened). v.kept) (view ∙ ap (λ z. after_keeping z s.work.view) q))
    (kept_objects b s.work u same) (kept_numbers b s.work u same) (kept_context b s.work u same)

pub returns-clause-settled : goal.returns-clause-settled
returns-clause-settled c = λ M away quiet.
    let s = c.args.session.now in
    let m = c.args.manager in
    let xs = s.managers.items in
    let x = manager_in xs m in
    let u = c.keep.new.self in
    let begun : c.is_begun-is_begun.result ≡ is_begun_status x.status = c.is_begun-is_begun.ensures ∙ ap is_begun_status c.status_of.ensures in
    let view : u.view ≡ after_keeping (is_begun_status x.status) s.work.view = c.keep.ensures.view ∙ ap (λ b. after_keeping b s.work.view) begun in
    let left = left_keeping (is_begun_status x.status) s.work.view u.view view in
    let turned = c.exchange_if_begun.ensures in
    let with : List EntityManager → List EntityManager = λ ys. slice_set ys m (record (manager_in ys m) { context = u.context }) in
    let t : Session = record s { managers = c.exchange.new.managers; work = record u { context = c.keep-2.new.self; view = c.exchange_if_begun.new.view } } in
    let e : t.managers.items ≡ slice_set xs m (record x { layers = turned.layers; context = u.context }) =
    c.exchange.ensures.managers ∙ ap with turned.managers ∙ both_set xs m turned.layers u.context c.requires.within in
    let zs = c.exchange_if_begun.new.managers.items in
    let kept = c.keep.ensures.kept in
    settled_back M s t m u.view u.context zs away left turned e
    (record {
      objects = kept.objects;
      context = c.keep-2.ensures.since ∙ sym c.keep-2.ensures.now;
      numbers = kept.numbers;
      view = seen_back M s t m u.view u.context zs away left turned e;
    })
    (kept_events c.is_begun-is_begun.result s.work u c.keep.ensures.now ∙ quiet)
    (counted_same s t m (record x { layers = turned.layers; context = u.context }) away.counted e refl refl)

pub returns-clause-marked : goal.returns-clause-marked
returns-clause-marked c = λ model M away marked.
    let s = c.args.session.now in
    let m = c.args.manager in
    let xs = s.managers.items in
    let x = manager_in xs m in
    let u = c.keep.new.self in
    let begun : c.is_begun-is_begun.result ≡ is_begun_status x.status = c.is_begun-is_begun.ensures ∙ ap is_begun_status c.status_of.ensures in
    let view : u.view ≡ after_keeping (is_begun_status x.status) s.work.view = c.keep.ensures.view ∙ ap (λ b. after_keeping b s.work.view) begun in
    let left = left_keeping (is_begun_status x.status) s.work.view u.view view in
    let turned = c.exchange_if_begun.ensures in
    let y : EntityManager = record x { layers = turned.layers; context = u.context } in
    let with : List EntityManager → List EntityManager = λ ys. slice_set ys m (record (manager_in ys m) { context = u.context }) in
    let t : Session = record s { managers = c.exchange.new.managers; work = record u { context = c.keep-2.new.self; view = c.exchange_if_begun.new.view } } in
    let e : t.managers.items ≡ slice_set xs m y =
    c.exchange.ensures.managers ∙ ap with turned.managers ∙ both_set xs m turned.layers u.context c.requires.within in
    let same = c.keep.ensures.now in
    let b = c.is_begun-is_begun.result in
    let home : (manager_in t.managers.items m).context ≡ u.context = ap (λ ys. (manager_in ys m).context) e ∙ ap (λ (z : EntityManager). z.context) (placed xs m y c.requires.within) in
    marked_on model M m s t
    (kept_back M s t m u.view u.context c.exchange_if_begun.new.managers.items away left turned e refl
    (λ q. ap (λ (v : Opened). v.kept) (view ∙ ap (λ z. after_keeping z s.work.view) q))
    (kept_objects b s.work u same) (kept_numbers b s.work u same) (kept_context b s.work u same))
    marked (ap (λ (z : Entries). z.now) home ∙ kept_context b s.work u same) (ap (λ (z : Entries). z.marks) home ∙ c.keep.ensures.marks)
    (λ k n. ap (λ (z : EntityManager). (z.context).marks) (ap (λ ys. manager_in ys k) e ∙ elsewhere xs m k y n))
