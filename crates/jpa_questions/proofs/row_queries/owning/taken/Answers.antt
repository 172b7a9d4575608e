use Rattle.std.proofs.Common.{◌∙◌, ap, sym}
use Rattle.jpql_meaning.specs.eval.Answers.{gives}
use Rattle.jpa_open.specs.Opened.{now}
use Rattle.jpql_bulk.specs.bulk.Changes.{found_by_delete}
use Rattle.jpql_run.specs.Objects.{identities}
use Rattle.jpa_questions.proofs.row_queries.Asked.{answers_rows}
use Rattle.jpa_questions.proofs.row_queries.owning.taken.Goals as goal

pub returns-in-Ok-clause-answer : goal.returns-in-Ok-clause-answer
returns-in-Ok-clause-answer c =
    answers_rows (found_by_delete c.args.metamodel.now (now c.args.set.now) c.args.parameters.now c.args.class c.args.is_named c.args.filter.now) (identities c.deref.result.now) c.copies_of.result
    (c.in-Ok.ensures ∙ ap (λ ids. gives (identities ids)) (sym c.deref.ensures.value)) c.copies_of.ensures.ok c.copies_of.ensures.err
