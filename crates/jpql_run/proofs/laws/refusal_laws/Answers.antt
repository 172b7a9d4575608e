use Rattle.jpql_run.proofs.Refused.{refusal_laws}
use Rattle.jpql_run.proofs.laws.refusal_laws.Goals as goal

pub returns : goal.returns
returns c = refusal_laws
