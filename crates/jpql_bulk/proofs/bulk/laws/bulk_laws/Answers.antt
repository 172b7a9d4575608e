use Rattle.jpql_bulk.proofs.bulk.Found.{of_update, of_delete}
use Rattle.jpql_bulk.proofs.bulk.laws.bulk_laws.Goals as goal

pub returns : goal.returns
returns c = λ m s ps. record { update = of_update m s ps; delete = of_delete m s ps }
