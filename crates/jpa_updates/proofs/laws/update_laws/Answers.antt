use Rattle.jpa_updates.proofs.Arguments.{arguments_are}
use Rattle.jpa_updates.proofs.Executed.{executed}
use Rattle.jpa_updates.proofs.Held.{bulk_held}
use Rattle.jpa_updates.proofs.laws.update_laws.Goals as goal

pub returns : goal.returns
returns c = λ world. record {
  bound = λ bindings w keys bound ds e. arguments_are world.model w keys bindings bound ds e;
  kept = bulk_held world;
  executed = executed world;
}
