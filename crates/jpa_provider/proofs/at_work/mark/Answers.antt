use Rattle.std.proofs.Common.{◌≡◌, List, refl, ap, sym, ◌∙◌}
use Rattle.std.specs.Prelude.{slice_set}
use Rattle.jpa_provider.specs.declared.session.EntityManager.{EntityManager}
use Rattle.jpa_provider.specs.declared.session.Session.{Session}
use Rattle.jpa_provider.specs.declared.session.Status.{Status}
use Rattle.jpa_provider.specs.Serving.{manager_in, marked_status}
use Rattle.jpa_provider.proofs.Counted.{counted_same}
use Rattle.jpa_provider.proofs.Marked.{context_kept, same_marked}
use Rattle.jpa_provider.proofs.Sessions.{marked_there, marked_open, marked_begun, idle_changed}
use Rattle.jpa_provider.proofs.at_work.mark.Goals as goal

pub returns-clause-marked : goal.returns-clause-marked
returns-clause-marked c =
    let s = c.args.session.now in
    let t : Session = record s { managers = c.set_status.new.managers } in
    let xs : List EntityManager = s.managers.items in
    let x : EntityManager = manager_in xs c.args.manager in
    let with : Status → List EntityManager = λ st. slice_set xs c.args.manager (record x { status = st }) in
    marked_there s t c.args.manager refl refl (c.set_status.ensures ∙ ap with (c.marked-status.ensures ∙ ap marked_status c.status_of.ensures))

pub returns-clause-rest : goal.returns-clause-rest
returns-clause-rest c =
    let s = c.args.session.now in
    let t : Session = record s { managers = c.set_status.new.managers } in
    let xs : List EntityManager = s.managers.items in
    let x : EntityManager = manager_in xs c.args.manager in
    let with : Status → List EntityManager = λ st. slice_set xs c.args.manager (record x { status = st }) in
    let y : EntityManager = record x { status = marked_status x.status } in
    let e : t.managers.items ≡ slice_set xs c.args.manager y = c.set_status.ensures ∙ ap with (c.marked-status.ensures ∙ ap marked_status c.status_of.ensures) in
    record {
      settled = λ settled. record {
        kept = settled.kept;
        quiet = settled.quiet;
        resting = settled.resting;
        idle = idle_changed xs t.managers.items c.args.manager y c.requires.within e (λ none. settled.idle c.args.manager (sym (marked_begun x.status) ∙ none)) settled.idle;
        counted = counted_same s t c.args.manager y settled.counted e (marked_open x.status) refl;
      };
      marked = λ model marks. same_marked model s t refl (context_kept xs t.managers.items c.args.manager y c.requires.within e refl) marks;
    }
