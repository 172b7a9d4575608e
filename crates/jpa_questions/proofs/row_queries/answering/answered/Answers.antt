use Rattle.jpa_open.specs.Opened.{now}
use Rattle.jpql_meaning.specs.plan.Selection.{selected}
use Rattle.jpql_select.specs.select.Tables.{rows_in}
use Rattle.jpa_questions.proofs.row_queries.Asked.{answers_rows}
use Rattle.jpa_questions.proofs.row_queries.answering.answered.Goals as goal

pub returns-in-Ok-clause-answer : goal.returns-in-Ok-clause-answer
returns-in-Ok-clause-answer c =
    answers_rows (selected c.args.metamodel.now (now c.args.set.now) c.args.parameters.now c.args.statement.now) (rows_in c.in-Ok.table) c.rows_of.result c.in-Ok.ensures c.rows_of.ensures.ok c.rows_of.ensures.err
