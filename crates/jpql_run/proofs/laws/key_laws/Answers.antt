use Rattle.jpql_run.proofs.Lookups.{key_laws}
use Rattle.jpql_run.proofs.laws.key_laws.Goals as goal

pub returns : goal.returns
returns c = key_laws
