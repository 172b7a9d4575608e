use Rattle.jpql_run.proofs.CalmConditions.{calm_laws}
use Rattle.jpql_run.proofs.laws.calm_laws.Goals as goal

pub returns : goal.returns
returns c = calm_laws
