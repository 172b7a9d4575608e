use Rattle.std.proofs.Common.{◌≡◌, ap, option_map}
use Rattle.jpa_open.specs.Opened.{Opened, now}
use Rattle.jpa_rows.specs.rows.Faults.{IsStoreCause}
use Rattle.jpa_stored.specs.objects.Sets.{stored_at}
use Rattle.jpa_questions.specs.by_key.ByKey.{only, pairless}
use Rattle.jpa_questions.specs.row_queries.Unread.{IsReadingCause}
use Rattle.jpa_questions.proofs.row_queries.Looks.{err_is, if_err, if_passed, looks_own, looks_passed, match_err, memory_own, memory_reading}
use Rattle.jpa_questions.proofs.row_queries.Asked.{alone_looked_up, opened_as, opened_looked}
use Rattle.jpa_questions.proofs.row_queries.seen.alone_seen.Goals as goal

pub returns-in_err-object-clause-seen : goal.returns-in_err-object-clause-seen
returns-in_err-object-clause-seen g c clean alone set numbers sees =
    let e = c.in_err-object.field-0.0 in match_err IsStoreCause (λ (found : Opened). now found ≡ only c.args.id (option_map (pairless c.args.metamodel.now) (stored_at set c.args.id))) c.from_residual.result e c.from_residual.ensures.1 (c.in_err-object.ensures.object clean alone set numbers sees)

pub returns-in_err-object-clause-err : goal.returns-in_err-object-clause-err
returns-in_err-object-clause-err g c clean rows holds =
    let e = c.in_err-object.field-0.0 in if_passed IsReadingCause c.from_residual.result e c.from_residual.ensures.1 (c.in_err-object.ensures.err clean rows holds)

pub returns-in_err-object-clause-looks : goal.returns-in_err-object-clause-looks
returns-in_err-object-clause-looks g c =
    let e = c.in_err-object.field-0.0 in
    looks_passed g.R.RowReader c.args.source.now c.object_under.new.source e c.object_under.result c.from_residual.result c.in_err-object.was (err_is c.from_residual.result e c.from_residual.ensures.1) c.object_under.ensures.looks

pub returns-clause-seen : goal.returns-clause-seen
returns-clause-seen g c clean alone set numbers sees =
    opened_as c.opened_alone.result (only c.args.id c.in_ok-object.object) (only c.args.id _) (ap (only c.args.id) (c.in_ok-object.ensures.object clean alone set numbers sees)) c.opened_alone.ensures.opened c.opened_alone.ensures.err

pub returns-clause-looked_up : goal.returns-clause-looked_up
returns-clause-looked_up g c =
    opened_looked c.args.metamodel.now c.opened_alone.result (only c.args.id c.in_ok-object.object) (alone_looked_up c.args.metamodel.now c.args.id c.in_ok-object.object c.in_ok-object.ensures.shaped) c.opened_alone.ensures.opened

pub returns-clause-err : goal.returns-clause-err
returns-clause-err g c clean rows holds = if_err c.opened_alone.result memory_reading c.opened_alone.ensures.err

pub returns-clause-looks : goal.returns-clause-looks
returns-clause-looks g c =
    looks_own g.R.RowReader c.args.source.now c.object_under.new.source c.in_ok-object.object c.object_under.result c.opened_alone.result c.in_ok-object.was c.object_under.ensures.looks (if_err c.opened_alone.result memory_own c.opened_alone.ensures.err)
