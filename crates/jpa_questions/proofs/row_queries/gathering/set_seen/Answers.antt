use Rattle.std.proofs.Common.{◌≡◌, ◌∙◌, sym, subst}
use Rattle.std.specs.Prelude.{IfOk}
use Rattle.jpa_behaviour.specs.Registered.{world_of}
use Rattle.jpa_opening.specs.reader.OfSet.{AreOf}
use Rattle.jpa_opening.proofs.reader.OfSet.{of_unit}
use Rattle.jpa_object_rows.proofs.meaning.Bytes.Described.{described_mapped}
use Rattle.jpa_rows.specs.overlay.Overlay.{rows_under}
use Rattle.jpa_rows.specs.rows.Rows.{Rows}
use Rattle.jpa_rows.specs.rows.Faults.{IsStoreCause}
use Rattle.jpa_stored.specs.objects.Sets.{StoredSet}
use Rattle.jpa_questions.specs.row_queries.Unread.{IsReadingCause}
use Rattle.jpa_questions.specs.row_queries.Seen.{AreJustOf}
use Rattle.jpa_questions.proofs.row_queries.Looks.{damage_own, damage_reading, if_err, if_passed, looks_own, looks_passed, err_is, match_err, store_reading, ok_passed}
use Rattle.jpa_questions.proofs.row_queries.gathering.set_seen.Goals as goal

pub returns-in_err-rows-clause-set : goal.returns-in_err-rows-clause-set
returns-in_err-rows-clause-set g c clean set numbers sees =
    let e = c.in_err-rows.field-0.0 in match_err IsStoreCause (λ (found : StoredSet). found ≡ set) c.from_residual.result e c.from_residual.ensures.1 (c.in_err-rows.ensures.err clean sees.rows sees.rising sees.held)

pub returns-in_err-rows-clause-err : goal.returns-in_err-rows-clause-err
returns-in_err-rows-clause-err g c clean rows rise holds =
    let e = c.in_err-rows.field-0.0 in if_passed IsReadingCause c.from_residual.result e c.from_residual.ensures.1 (store_reading e (c.in_err-rows.ensures.err clean rows rise holds))

pub returns-in_err-rows-clause-looks : goal.returns-in_err-rows-clause-looks
returns-in_err-rows-clause-looks g c =
    let e = c.in_err-rows.field-0.0 in
    looks_passed g.R.RowReader c.args.source.now c.all_rows.new.source e c.all_rows.result c.from_residual.result c.in_err-rows.was (err_is c.from_residual.result e c.from_residual.ensures.1) c.all_rows.ensures.looks

pub returns-clause-set : goal.returns-clause-set
returns-clause-set g c clean set numbers sees =
    let m = c.args.metamodel.now in
    let world = world_of g.B.Behaviour.meaning m c.args.registry.now in
    let seen = rows_under c.args.overlay.now sees.rows in
    let unit = of_unit world (described_mapped m c.unit.ensures.described) (c.laws.ensures.regular m) c.discriminator_law.ensures seen set numbers sees.of in
    let same = c.in_ok-rows.ensures.rows clean sees.rows sees.rising sees.held unit.named in
    c.set_of.ensures.set set numbers (subst (λ (rs : Rows). AreOf world rs set numbers) (sym (c.as_slice.ensures ∙ same)) sees.of)

pub returns-clause-err : goal.returns-clause-err
returns-clause-err g c clean rows rise holds = if_err c.set_of.result damage_reading c.set_of.ensures.err

pub returns-clause-looks : goal.returns-clause-looks
returns-clause-looks g c =
    looks_own g.R.RowReader c.args.source.now c.all_rows.new.source c.in_ok-rows.rows c.all_rows.result c.set_of.result c.in_ok-rows.was c.all_rows.ensures.looks (if_err c.set_of.result damage_own c.set_of.ensures.err)

pub returns-in_err-rows-clause-whole : goal.returns-in_err-rows-clause-whole
returns-in_err-rows-clause-whole g c clean sees =
    let world = world_of g.B.Behaviour.meaning c.args.metamodel.now c.args.registry.now in
    ok_passed (AreJustOf world (rows_under c.args.overlay.now sees.rows)) c.from_residual.result c.in_err-rows.field-0.0 c.from_residual.ensures.1

pub returns-clause-whole : goal.returns-clause-whole
returns-clause-whole g c clean sees =
    let world = world_of g.B.Behaviour.meaning c.args.metamodel.now c.args.registry.now in
    let same = c.in_ok-rows.ensures.rows clean sees.rows sees.rising sees.held sees.named in
    subst (λ (rs : Rows). IfOk c.set_of.result (AreJustOf world rs)) (c.as_slice.ensures ∙ same) c.set_of.ensures.held
