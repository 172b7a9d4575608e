use Rattle.std.proofs.Common.{ap, length, List}
use Rattle.std.specs.Prelude.{◌==◌}
use Rattle.jpa_value.specs.declared.value.Identity.{Identity}
use Rattle.jpa_flush.proofs.flush.Silent.{calm_action, calm_orphans, calm_parts, calm_remembered, linked_stored}
use Rattle.jpa_flush.proofs.flush.Locked.{calm_unlocked, untouched_calm}
use Rattle.jpa_flush.proofs.flush.laws.calm_laws.Goals as goal

pub returns-clause-rest : goal.returns-clause-rest
returns-clause-rest c = λ m w e h. record {
  action = calm_action m w e h;
  orphans = λ own. ap (λ (ids : List Identity). length ids == 0) (calm_orphans m w e h own);
  remembered = calm_remembered m w e h;
  managed = (calm_parts m w e h).managed;
  unlocked = calm_unlocked m w e h;
}

pub returns-clause-stored : goal.returns-clause-stored
returns-clause-stored c = linked_stored

pub returns-clause-looked : goal.returns-clause-looked
returns-clause-looked c = untouched_calm
