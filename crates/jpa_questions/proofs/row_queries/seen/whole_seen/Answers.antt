use Rattle.std.proofs.Common.{◌≡◌}
use Rattle.jpa_open.specs.Opened.{Opened, now}
use Rattle.jpa_rows.specs.rows.Faults.{IsStoreCause}
use Rattle.jpa_rows.specs.overlay.Overlay.{rows_under}
use Rattle.jpa_behaviour.specs.Registered.{world_of}
use Rattle.jpa_questions.specs.row_queries.Unread.{IsReadingCause}
use Rattle.jpa_questions.specs.row_queries.Seen.{AreJustOf}
use Rattle.jpa_questions.proofs.row_queries.Looks.{err_is, if_err, if_passed, looks_own, looks_passed, match_err, memory_own, memory_reading, ok_passed}
use Rattle.jpa_questions.proofs.row_queries.Asked.{opened_as, opened_looked, opened_of}
use Rattle.jpa_questions.proofs.row_queries.seen.whole_seen.Goals as goal

pub returns-in_err-set-clause-seen : goal.returns-in_err-set-clause-seen
returns-in_err-set-clause-seen g c clean set numbers sees =
    let e = c.in_err-set.field-0.0 in match_err IsStoreCause (λ (found : Opened). now found ≡ set) c.from_residual.result e c.from_residual.ensures.1 (c.in_err-set.ensures.set clean set numbers sees)

pub returns-in_err-set-clause-err : goal.returns-in_err-set-clause-err
returns-in_err-set-clause-err g c clean rows rise holds =
    let e = c.in_err-set.field-0.0 in if_passed IsReadingCause c.from_residual.result e c.from_residual.ensures.1 (c.in_err-set.ensures.err clean rows rise holds)

pub returns-in_err-set-clause-looks : goal.returns-in_err-set-clause-looks
returns-in_err-set-clause-looks g c =
    let e = c.in_err-set.field-0.0 in
    looks_passed g.R.RowReader c.args.source.now c.set_seen.new.source e c.set_seen.result c.from_residual.result c.in_err-set.was (err_is c.from_residual.result e c.from_residual.ensures.1) c.set_seen.ensures.looks

pub returns-clause-seen : goal.returns-clause-seen
returns-clause-seen g c clean set numbers sees = opened_as c.view_of.result c.in_ok-set.set set (c.in_ok-set.ensures.set clean set numbers sees) c.view_of.ensures.view c.view_of.ensures.err

pub returns-clause-looked_up : goal.returns-clause-looked_up
returns-clause-looked_up g c =
    opened_looked c.args.metamodel.now c.view_of.result c.in_ok-set.set (record { rising = c.in_ok-set.ensures.rising; shaped = c.in_ok-set.ensures.shaped }) c.view_of.ensures.view

pub returns-clause-err : goal.returns-clause-err
returns-clause-err g c clean rows rise holds = if_err c.view_of.result memory_reading c.view_of.ensures.err

pub returns-clause-looks : goal.returns-clause-looks
returns-clause-looks g c =
    looks_own g.R.RowReader c.args.source.now c.set_seen.new.source c.in_ok-set.set c.set_seen.result c.view_of.result c.in_ok-set.was c.set_seen.ensures.looks (if_err c.view_of.result memory_own c.view_of.ensures.err)

pub returns-in_err-set-clause-whole : goal.returns-in_err-set-clause-whole
returns-in_err-set-clause-whole g c clean sees =
    let world = world_of g.B.Behaviour.meaning c.args.metamodel.now c.args.registry.now in
    ok_passed (λ (found : Opened). AreJustOf world (rows_under c.args.overlay.now sees.rows) (now found)) c.from_residual.result c.in_err-set.field-0.0 c.from_residual.ensures.1

pub returns-clause-whole : goal.returns-clause-whole
returns-clause-whole g c clean sees =
    let world = world_of g.B.Behaviour.meaning c.args.metamodel.now c.args.registry.now in
    opened_of (AreJustOf world (rows_under c.args.overlay.now sees.rows)) c.view_of.result c.in_ok-set.set (c.in_ok-set.ensures.whole clean sees) c.view_of.ensures.view
