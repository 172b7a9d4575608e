use Rattle.jpql_meaning.proofs.plan.Grouped.{first_of_groups}
use Rattle.jpql_meaning.proofs.plan.laws.group_laws.Goals as goal

pub returns : goal.returns
returns c = λ key t ts. record { first_group = first_of_groups key t ts }
