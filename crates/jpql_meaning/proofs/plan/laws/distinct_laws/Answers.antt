use Rattle.jpql_meaning.proofs.plan.Once.{once_more}
use Rattle.jpql_meaning.proofs.plan.laws.distinct_laws.Goals as goal

pub returns : goal.returns
returns c = λ rows row. record { one_more = once_more rows row }
