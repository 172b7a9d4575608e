use Rattle.jpql_run.proofs.Refused.{leaving_out}
use Rattle.jpql_run.proofs.laws.leaving_out_laws.Goals as goal

pub returns : goal.returns
returns c = leaving_out
