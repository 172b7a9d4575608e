use Rattle.jpql_meaning.proofs.plan.AloneBlocks.{rows_alone}
use Rattle.jpql_meaning.proofs.plan.laws.alone_laws.Goals as goal

pub returns : goal.returns
returns c = λ m s ps. record { rows_alone = λ n b p q h lp lq. rows_alone m s ps n b p q h lp lq }
