use Rattle.jpql_run.proofs.Refused.{left_out_of_join}
use Rattle.jpql_run.proofs.laws.join_laws.Goals as goal

pub returns : goal.returns
returns c = λ m s ps on told. record { candidates = left_out_of_join m s ps on told }
