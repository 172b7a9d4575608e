use Rattle.jpql_meaning.proofs.plan.Fronts.{parted}
use Rattle.jpql_meaning.proofs.plan.laws.front_laws.Goals as goal

pub returns : goal.returns
returns c = λ keys p row ts. record { parted = parted keys p row ts }
