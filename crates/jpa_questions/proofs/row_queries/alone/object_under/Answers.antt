use Rattle.std.proofs.Common.{◌≡◌, Option, option_map}
use Rattle.jpa_rows.specs.overlay.Overlay.{rows_under}
use Rattle.jpa_rows.specs.rows.Faults.{IsStoreCause}
use Rattle.jpa_stored.specs.declared.objects.stored.Stored.{Stored}
use Rattle.jpa_stored.specs.objects.Sets.{stored_at}
use Rattle.jpa_questions.specs.by_key.ByKey.{pairless}
use Rattle.jpa_questions.specs.row_queries.Unread.{IsReadingCause}
use Rattle.jpa_questions.proofs.row_queries.Looks.{damage_own, damage_reading, if_err, if_passed, looks_own, looks_passed, err_is, match_err, store_reading}
use Rattle.jpa_questions.proofs.row_queries.alone.object_under.Goals as goal

pub returns-in_err-row-clause-object : goal.returns-in_err-row-clause-object
returns-in_err-row-clause-object g c clean alone set numbers sees =
    let e = c.in_err-row.field-0.0 in match_err IsStoreCause (λ (found : Option Stored). found ≡ option_map (pairless c.args.metamodel.now) (stored_at set c.args.id.now)) c.from_residual.result e c.from_residual.ensures.1 (c.in_err-row.ensures.err clean sees.rows sees.held)

pub returns-in_err-row-clause-err : goal.returns-in_err-row-clause-err
returns-in_err-row-clause-err g c clean rows holds =
    let e = c.in_err-row.field-0.0 in if_passed IsReadingCause c.from_residual.result e c.from_residual.ensures.1 (store_reading e (c.in_err-row.ensures.err clean rows holds))

pub returns-in_err-row-clause-looks : goal.returns-in_err-row-clause-looks
returns-in_err-row-clause-looks g c =
    let e = c.in_err-row.field-0.0 in
    looks_passed g.R.RowReader c.args.source.now c.get.new.source e c.get.result c.from_residual.result c.in_err-row.was (err_is c.from_residual.result e c.from_residual.ensures.1)
    c.get.ensures.looks

pub returns-in_err-row-clause-economy : goal.returns-in_err-row-clause-economy
returns-in_err-row-clause-economy g c = c.get.ensures.economy

pub returns-clause-object : goal.returns-clause-object
returns-clause-object g c clean alone set numbers sees =
    c.object_of.ensures.object alone (rows_under c.args.overlay.now sees.rows) (c.in_ok-row.ensures.ok clean sees.rows sees.held) set numbers sees.of

pub returns-clause-err : goal.returns-clause-err
returns-clause-err g c clean rows holds = if_err c.object_of.result damage_reading c.object_of.ensures.err

pub returns-clause-looks : goal.returns-clause-looks
returns-clause-looks g c =
    looks_own g.R.RowReader c.args.source.now c.get.new.source c.in_ok-row.row c.get.result c.object_of.result c.in_ok-row.was
    c.get.ensures.looks
    (if_err c.object_of.result damage_own c.object_of.ensures.err)

pub returns-clause-economy : goal.returns-clause-economy
returns-clause-economy g c = c.get.ensures.economy
