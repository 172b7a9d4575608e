use Rattle.jpql_bulk.proofs.kept.Kept.{update_keeps, delete_keeps}
use Rattle.jpql_bulk.proofs.kept.laws.keep_laws.Goals as goal

pub returns : goal.returns
returns c = λ world s numbers. record { update = update_keeps world s numbers; delete = delete_keeps world s numbers }
