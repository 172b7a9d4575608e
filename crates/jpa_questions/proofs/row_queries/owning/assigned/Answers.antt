use Rattle.std.proofs.Common.{◌∙◌, ap, sym, map}
use Rattle.jpa_open.specs.Opened.{now}
use Rattle.jpql_meaning.specs.eval.Answers.{gives, under}
use Rattle.jpql_bulk.specs.bulk.Changes.{change_in}
use Rattle.jpa_questions.specs.row_queries.Changing.{by_identity, set_by_update}
use Rattle.jpa_questions.proofs.row_queries.Asked.{answers_rows}
use Rattle.jpa_questions.proofs.row_queries.owning.assigned.Goals as goal

pub returns-in-Ok-clause-answer : goal.returns-in-Ok-clause-answer
returns-in-Ok-clause-answer c =
    answers_rows (set_by_update c.args.metamodel.now (now c.args.set.now) c.args.parameters.now c.args.class c.args.assignments.now c.args.filter.now) (map by_identity (map change_in c.deref.result.now))
    c.changes_of.result
    (ap (under (map by_identity)) c.in-Ok.ensures ∙ ap (λ found. gives (map by_identity (map change_in found))) (sym c.deref.ensures.value)) c.changes_of.ensures.ok c.changes_of.ensures.err
