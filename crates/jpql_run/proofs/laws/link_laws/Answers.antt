use Rattle.jpql_run.proofs.ByLink.{link_laws}
use Rattle.jpql_run.proofs.laws.link_laws.Goals as goal

pub returns : goal.returns
returns c = link_laws
