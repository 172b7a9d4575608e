use Rattle.std.proofs.Common.{subst, List}
use Rattle.jpql_meaning.specs.eval.Answers.{Answer}
use Rattle.jpql_meaning.specs.declared.eval.datum.Datum.{Datum}
use Rattle.jpql_meaning.specs.plan.Selection.{selected}
use Rattle.jpa_questions.proofs.row_queries.Looks.{err_is, if_err, if_passed, looks_own, looks_passed, ok_any, ok_passed}
use Rattle.jpa_behaviour.specs.Registered.{world_of}
use Rattle.jpa_rows.specs.overlay.Overlay.{rows_under}
use Rattle.jpa_stored.specs.objects.Sets.{StoredSet}
use Rattle.jpa_questions.specs.row_queries.Seen.{AreJustOf}
use Rattle.jpa_questions.specs.row_queries.Answered.{Answers, IsAskingCause}
use Rattle.jpa_questions.proofs.row_queries.Asked.{asking, err_answers, own_asking, reading_asking}
use Rattle.jpa_questions.proofs.row_queries.running.run.Goals as goal

pub returns-in_err-set-clause-answer : goal.returns-in_err-set-clause-answer
returns-in_err-set-clause-answer g c clean set numbers sees =
    let e = c.in_err-set.field-0.0 in
    err_answers (selected c.args.metamodel.now set c.args.parameters.now c.args.statement.now) c.from_residual.result e (err_is c.from_residual.result e c.from_residual.ensures.1) (c.in_err-set.ensures.asked clean set numbers sees)

pub returns-in_err-set-clause-err : goal.returns-in_err-set-clause-err
returns-in_err-set-clause-err g c clean rows rise holds =
    let e = c.in_err-set.field-0.0 in if_passed IsAskingCause c.from_residual.result e c.from_residual.ensures.1 (reading_asking e (c.in_err-set.ensures.err clean rows rise holds))

pub returns-in_err-set-clause-looks : goal.returns-in_err-set-clause-looks
returns-in_err-set-clause-looks g c =
    let e = c.in_err-set.field-0.0 in
    looks_passed g.R.RowReader c.args.source.now c.set_asked.new.source e c.set_asked.result c.from_residual.result c.in_err-set.was (err_is c.from_residual.result e c.from_residual.ensures.1) c.set_asked.ensures.looks

pub returns-clause-answer : goal.returns-clause-answer
returns-clause-answer g c clean set numbers sees =
    subst (λ (w : Answer (List (List Datum))). Answers c.answered.result w) (c.in_ok-set.ensures.asked clean set numbers sees) c.answered.ensures.answer

pub returns-clause-err : goal.returns-clause-err
returns-clause-err g c clean rows rise holds = if_err c.answered.result asking c.answered.ensures.err

pub returns-clause-looks : goal.returns-clause-looks
returns-clause-looks g c =
    looks_own g.R.RowReader c.args.source.now c.set_asked.new.source c.in_ok-set.set c.set_asked.result c.answered.result c.in_ok-set.was c.set_asked.ensures.looks (if_err c.answered.result own_asking c.answered.ensures.err)

pub returns-in_err-set-clause-whole : goal.returns-in_err-set-clause-whole
returns-in_err-set-clause-whole g c clean none sees =
    let world = world_of g.B.Behaviour.meaning c.args.metamodel.now c.args.registry.now in
    ok_passed (λ (rows : List (List Datum)). (set : StoredSet) × AreJustOf world (rows_under c.args.overlay.now sees.rows) set) c.from_residual.result c.in_err-set.field-0.0 c.from_residual.ensures.1

pub returns-clause-whole : goal.returns-clause-whole
returns-clause-whole g c clean none sees = ok_any c.answered.result (c.in_ok-set.ensures.whole clean none sees)
