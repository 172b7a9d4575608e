use Rattle.jpql_meaning.specs.declared.eval.datum.Datum.{Datum}
use Rattle.jpa_queries.proofs.Enough.{enough}
use Rattle.jpa_queries.proofs.cut.wanted.Goals as goal

pub returns-in-Some : goal.returns-in-Some
returns-in-Some c = enough c.args.first c.args.max c.skips.result c.in-Some.kept c.skips.ensures.rows c.in-Some.ensures.rows
