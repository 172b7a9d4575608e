use Rattle.std.proofs.Common.{sym, subst, List}
use Rattle.std.specs.Prelude.{All, length}
use Rattle.jpa_work.specs.declared.heap.LiveObject.{LiveObject}
use Rattle.jpa_provider.specs.Serving.{machine_of}
use Rattle.jpa_provider.specs.Stages.{CanBeShown}
use Rattle.jpa_provider.proofs.Own.{all_can}
use Rattle.jpa_provider.proofs.showing.values_call.Goals as goal

pub all_shown-requires : goal.all_shown-requires
all_shown-requires g c =
    subst (λ (objects : List LiveObject). All (CanBeShown c.args.unit.now.metamodel (length objects)) objects) (sym c.as_slice.ensures)
    (all_can (machine_of c.args.session.now) c.requires.machine)
