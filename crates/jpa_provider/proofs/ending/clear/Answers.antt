use Rattle.jpa_work.specs.context.Marks.{none_marked, Entries}
use Rattle.std.proofs.Common.{◌≡◌, [], refl, ap, sym, ◌∙◌}
use Rattle.std.specs.Prelude.{slice_set}
use Rattle.jpa_operations.specs.ops.States.{detach_each}
use Rattle.jpa_provider.specs.declared.session.Session.{Session}
use Rattle.jpa_provider.specs.Serving.{manager_in}
use Rattle.jpa_provider.proofs.Asked.{cleared_there}
use Rattle.jpa_provider.proofs.Counted.{counted_same}
use Rattle.jpa_provider.proofs.Ended.{cleared_marks}
use Rattle.jpa_provider.proofs.Marked.{context_there}
use Rattle.jpa_provider.proofs.Sessions.{idle_changed}
use Rattle.jpa_provider.specs.declared.session.EntityManager.{EntityManager}
use Rattle.jpa_provider.proofs.ending.clear.Goals as goal

pub returns-clause-cleared : goal.returns-clause-cleared
returns-clause-cleared c =
    let s = c.args.session.now in
    let m = c.args.manager in
    let xs = s.managers.items in
    let empty : Entries = c.new-empty.result in
    let none : empty ≡ record { now = []; since = []; marks = none_marked } = λ i. record { now = c.new-empty.ensures.now i; since = c.new-empty.ensures.since i; marks = c.new-empty.ensures.marks i } in
    let t : Session = record s { managers = c.exchange.new.managers; work = record s.work { objects = c.detach_each.new.objects } } in
    record {
      machine = cleared_there s t m empty c.exchange.ensures.managers c.new-empty.ensures.now (c.detach_each.ensures.now ∙ ap (λ es. detach_each es s.work.objects.now) c.context_of.ensures) refl refl refl;
      managers = c.exchange.ensures.managers ∙ ap (λ (e : Entries). slice_set xs m (record (manager_in xs m) { context = e })) none;
      view = refl;
      places = refl;
    }

pub returns-clause-settled : goal.returns-clause-settled
returns-clause-settled c = λ settled.
    let s = c.args.session.now in
    let m = c.args.manager in
    let t : Session = record s { managers = c.exchange.new.managers; work = record s.work { objects = c.detach_each.new.objects } } in
    let kept = settled.kept in
    let y : EntityManager = record (manager_in s.managers.items m) { context = c.new-empty.result } in
    record {
      kept = record { objects = c.detach_each.ensures.kept kept.objects; context = kept.context; numbers = kept.numbers; view = kept.view };
      quiet = settled.quiet;
      resting = settled.resting;
      idle = idle_changed s.managers.items t.managers.items m y c.requires.within c.exchange.ensures.managers (settled.idle m) settled.idle;
      counted = counted_same s t m y settled.counted c.exchange.ensures.managers refl refl;
    }

pub returns-clause-marked : goal.returns-clause-marked
returns-clause-marked c = λ world machine all.
    let s = c.args.session.now in
    let m = c.args.manager in
    let y : EntityManager = record (manager_in s.managers.items m) { context = c.new-empty.result } in
    let t : Session = record s { managers = c.exchange.new.managers; work = record s.work { objects = c.detach_each.new.objects } } in
    let gone = c.detach_each.ensures.now ∙ ap (λ es. detach_each es s.work.objects.now) (c.context_of.ensures ∙ sym (context_there s m)) in
    cleared_marks c.other_laws.ensures.let_go s t m y c.requires.within c.exchange.ensures.managers c.new-empty.ensures.now gone machine all
