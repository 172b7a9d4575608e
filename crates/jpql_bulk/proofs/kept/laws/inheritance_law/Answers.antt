use Rattle.jpql_bulk.proofs.kept.Inherited.{described_inherited}
use Rattle.jpql_bulk.proofs.kept.laws.inheritance_law.Goals as goal

pub returns : goal.returns
returns c = λ m described. described_inherited m described
