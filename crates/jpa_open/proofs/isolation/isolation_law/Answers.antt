use Rattle.jpa_open.proofs.IsolatedMoves.{isolated}
use Rattle.jpa_open.proofs.isolation.isolation_law.Goals as goal

pub returns : goal.returns
returns c = record { isolated = isolated }
