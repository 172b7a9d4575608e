use Rattle.jpql_meaning.proofs.plan.Parts.{kept_is_filter, where_one_by_one}
use Rattle.jpql_meaning.proofs.plan.laws.where_laws.Goals as goal

pub returns : goal.returns
returns c = λ test drops ts. record { filtered = λ holds h. kept_is_filter test holds h ts; one_by_one = where_one_by_one drops test ts }
