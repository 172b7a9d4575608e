use Rattle.jpql_types.proofs.ResolvedStatements.{statement_resolved}
use Rattle.jpql_types.proofs.laws.resolved_law.Goals as goal

pub returns : goal.returns
returns c = λ m parameters q. statement_resolved m parameters q
