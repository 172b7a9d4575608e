use Rattle.std.proofs.Common.{refl, ap, ◌∙◌}
use Rattle.std.specs.Prelude.{length}
use Rattle.std.proofs.lemmas.List.{length-set}
use Rattle.jpa_provider.specs.declared.session.EntityManager.{EntityManager}
use Rattle.jpa_provider.specs.declared.session.Session.{Session}
use Rattle.jpa_provider.specs.Serving.{manager_in}
use Rattle.jpa_provider.proofs.Counted.{counted_same}
use Rattle.jpa_provider.proofs.Marked.{machine_remarked}
use Rattle.jpa_provider.proofs.Sessions.{elsewhere, idle_changed}
use Rattle.jpa_provider.proofs.at_work.mark_whole.Goals as goal

pub returns-clause-machine : goal.returns-clause-machine
returns-clause-machine c =
    let s = c.args.session.now in
    let t : Session = record s { managers = c.set_marks.new.managers } in
    machine_remarked s t c.args.manager (manager_in t.managers.items c.args.manager).context refl refl c.set_marks.ensures.set c.set_marks.ensures.entries

pub returns-clause-settled : goal.returns-clause-settled
returns-clause-settled c = λ settled.
    let s = c.args.session.now in
    let m = c.args.manager in
    let t : Session = record s { managers = c.set_marks.new.managers } in
    let y : EntityManager = record (manager_in s.managers.items m) { context = (manager_in t.managers.items m).context } in
    record {
      kept = settled.kept;
      quiet = settled.quiet;
      resting = settled.resting;
      idle = idle_changed s.managers.items t.managers.items m y c.requires.within c.set_marks.ensures.set (settled.idle m) settled.idle;
      counted = counted_same s t m y settled.counted c.set_marks.ensures.set refl refl;
    }

pub returns-clause-count : goal.returns-clause-count
returns-clause-count c =
    let xs = c.args.session.now.managers.items in
    let m = c.args.manager in
    ap length c.set_marks.ensures.set ∙ length-set xs m (record (manager_in xs m) { context = (manager_in c.set_marks.new.managers.items m).context })

pub returns-clause-others : goal.returns-clause-others
returns-clause-others c = λ k n.
    let xs = c.args.session.now.managers.items in
    let m = c.args.manager in
    ap (λ ys. ((manager_in ys k).context).marks) c.set_marks.ensures.set
    ∙ ap (λ (x : EntityManager). (x.context).marks) (elsewhere xs m k (record (manager_in xs m) { context = (manager_in c.set_marks.new.managers.items m).context }) n)
