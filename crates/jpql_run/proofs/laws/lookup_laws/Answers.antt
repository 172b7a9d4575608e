use Rattle.jpql_run.proofs.Lookups.{lookup_laws}
use Rattle.jpql_run.proofs.laws.lookup_laws.Goals as goal

pub returns : goal.returns
returns c = lookup_laws
