use Rattle.std.proofs.Common.{refl}
use Rattle.jpa_provider.specs.declared.session.EntityManager.{EntityManager}
use Rattle.jpa_provider.specs.declared.session.Session.{Session}
use Rattle.jpa_provider.specs.Serving.{manager_in}
use Rattle.jpa_provider.proofs.Counted.{counted_same}
use Rattle.jpa_provider.proofs.Marked.{context_kept, same_marked}
use Rattle.jpa_provider.proofs.Sessions.{mode_there, idle_changed}
use Rattle.jpa_provider.proofs.moding.change_mode.Goals as goal

pub returns-clause-mode : goal.returns-clause-mode
returns-clause-mode c =
    let s = c.args.session.now in
    let t : Session = record s { managers = c.set_mode.new.managers } in
    mode_there s t c.args.manager c.args.mode refl refl c.set_mode.ensures

pub returns-clause-rest : goal.returns-clause-rest
returns-clause-rest c =
    let s = c.args.session.now in
    let t : Session = record s { managers = c.set_mode.new.managers } in
    let x : EntityManager = manager_in s.managers.items c.args.manager in
    let y : EntityManager = record x { mode = c.args.mode } in
    record {
      settled = λ settled. record {
        kept = settled.kept;
        quiet = settled.quiet;
        resting = settled.resting;
        idle = idle_changed s.managers.items t.managers.items c.args.manager y c.requires.within c.set_mode.ensures (settled.idle c.args.manager) settled.idle;
        counted = counted_same s t c.args.manager y settled.counted c.set_mode.ensures refl refl;
      };
      marked = λ model marked. same_marked model s t refl (context_kept s.managers.items t.managers.items c.args.manager y c.requires.within c.set_mode.ensures refl) marked;
    }
