use Rattle.std.proofs.Common.{subst, List}
use Rattle.jpa_value.specs.declared.value.Identity.{Identity}
use Rattle.jpa_behaviour.specs.Registered.{world_of}
use Rattle.jpa_open.specs.Opened.{now}
use Rattle.jpa_rows.specs.overlay.Overlay.{rows_under}
use Rattle.jpa_stored.specs.objects.Sets.{StoredSet}
use Rattle.jpql_bulk.specs.bulk.Changes.{found_by_delete}
use Rattle.jpa_questions.specs.row_queries.Answered.{Answers, IsAskingCause}
use Rattle.jpa_questions.specs.row_queries.Seen.{AreJustOf}
use Rattle.jpa_questions.proofs.row_queries.Asked.{asking, err_answers, own_asking, reading_asking}
use Rattle.jpa_questions.proofs.row_queries.Looks.{err_is, if_err, if_passed, looks_own, looks_passed, ok_any, ok_passed}
use Rattle.jpa_questions.proofs.row_queries.changing.found_by_delete.Goals as goal

pub returns-in_err-set-clause-answer : goal.returns-in_err-set-clause-answer
returns-in_err-set-clause-answer g c clean set numbers sees =
    let e = c.in_err-set.field-0.0 in
    let wanted = λ (s : StoredSet). found_by_delete c.args.metamodel.now s c.args.parameters.now c.args.class c.args.is_named c.args.filter.now in
    err_answers (wanted set) c.from_residual.result e (err_is c.from_residual.result e c.from_residual.ensures.1) (c.in_err-set.ensures.seen clean set numbers sees)

pub returns-in_err-set-clause-whole : goal.returns-in_err-set-clause-whole
returns-in_err-set-clause-whole g c clean sees =
    let world = world_of g.B.Behaviour.meaning c.args.metamodel.now c.args.registry.now in
    ok_passed (λ (found : List (Identity)). (set : StoredSet) × AreJustOf world (rows_under c.args.overlay.now sees.rows) set) c.from_residual.result c.in_err-set.field-0.0 c.from_residual.ensures.1

pub returns-in_err-set-clause-err : goal.returns-in_err-set-clause-err
returns-in_err-set-clause-err g c clean rows rise holds =
    let e = c.in_err-set.field-0.0 in if_passed IsAskingCause c.from_residual.result e c.from_residual.ensures.1 (reading_asking e (c.in_err-set.ensures.err clean rows rise holds))

pub returns-in_err-set-clause-looks : goal.returns-in_err-set-clause-looks
returns-in_err-set-clause-looks g c =
    let e = c.in_err-set.field-0.0 in
    looks_passed g.R.RowReader c.args.source.now c.whole_seen.new.source e c.whole_seen.result c.from_residual.result c.in_err-set.was (err_is c.from_residual.result e c.from_residual.ensures.1) c.whole_seen.ensures.looks

pub returns-clause-answer : goal.returns-clause-answer
returns-clause-answer g c clean set numbers sees =
    subst (λ (s : StoredSet). Answers c.taken.result (found_by_delete c.args.metamodel.now s c.args.parameters.now c.args.class c.args.is_named c.args.filter.now)) (c.in_ok-set.ensures.seen clean set numbers sees) c.taken.ensures.answer

pub returns-clause-whole : goal.returns-clause-whole
returns-clause-whole g c clean sees = ok_any c.taken.result (now c.in_ok-set.set, c.in_ok-set.ensures.whole clean sees)

pub returns-clause-err : goal.returns-clause-err
returns-clause-err g c clean rows rise holds = if_err c.taken.result asking c.taken.ensures.err

pub returns-clause-looks : goal.returns-clause-looks
returns-clause-looks g c =
    looks_own g.R.RowReader c.args.source.now c.whole_seen.new.source c.in_ok-set.set c.whole_seen.result c.taken.result c.in_ok-set.was c.whole_seen.ensures.looks (if_err c.taken.result own_asking c.taken.ensures.err)
