use Rattle.jpql_run.proofs.Lookups.{known_laws}
use Rattle.jpql_run.proofs.laws.known_laws.Goals as goal

pub returns : goal.returns
returns c = known_laws
