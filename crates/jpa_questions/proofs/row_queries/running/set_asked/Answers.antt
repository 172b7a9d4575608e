use Rattle.std.proofs.Common.{rules, refl, sym, ◌∙◌, inl}
use Rattle.jpa_value.specs.declared.refusal.Cause.{Cause}
use Rattle.jpa_rows.proofs.laws.Facts.{some_none}
use Rattle.jpa_rows.specs.rows.Faults.{IsStoreCause}
use Rattle.jpa_behaviour.specs.Registered.{world_of}
use Rattle.jpa_open.specs.Opened.{Opened, now}
use Rattle.jpa_rows.specs.overlay.Overlay.{rows_under}
use Rattle.jpa_stored.specs.objects.Sets.{StoredSet}
use Rattle.jpa_questions.specs.row_queries.Seen.{AreJustOf}
use Rattle.jpa_questions.specs.row_queries.Unread.{IsReadingCause}
use Rattle.jpa_rows.proofs.rows.Looks.{looks_none, none_at_one}
use Rattle.jpa_questions.proofs.row_queries.Looks.{if_ok, if_passed, match_err, memory_reading, ok_passed}
use Rattle.jpa_questions.proofs.row_queries.Asked.{GivesSame, asked_alone, asked_whole, held_looked_up}
use Rattle.jpa_questions.proofs.row_queries.running.set_asked.Goals as goal

pub returns-in_err-asked-clause-asked : goal.returns-in_err-asked-clause-asked
returns-in_err-asked-clause-asked g c clean set numbers sees =
    match_err IsStoreCause (GivesSame c.args.metamodel.now c.args.parameters.now c.args.statement.now set) c.from_residual.result Cause.OutOfMemory c.from_residual.ensures.1 (inl refl)

pub returns-in_err-asked-clause-err : goal.returns-in_err-asked-clause-err
returns-in_err-asked-clause-err g c clean rows rise holds = if_passed IsReadingCause c.from_residual.result Cause.OutOfMemory c.from_residual.ensures.1 (memory_reading Cause.OutOfMemory refl)

pub returns-in_err-asked-clause-looks : goal.returns-in_err-asked-clause-looks
returns-in_err-asked-clause-looks g c = looks_none g.R.RowReader c.from_residual.result c.args.source.now (search rules) (g.met.R.RowReader.still c.args.source.now)

pub returns-in_err-asked-clause-economy : goal.returns-in_err-asked-clause-economy
returns-in_err-asked-clause-economy g c id key = none_at_one g.R.RowReader c.args.source.now

pub returns-in-Some-clause-asked : goal.returns-in-Some-clause-asked
returns-in-Some-clause-asked g c clean set numbers sees =
    let m = c.args.metamodel.now in
    let ps = c.args.parameters.now in
    let q = c.args.statement.now in
    let id = c.in-Some.id in
    let laws = c.key_laws.ensures m ps q id (sym c.in_ok-asked.ensures ∙ c.in-Some.is) in
    asked_alone m ps q set id laws (held_looked_up sees.of.held) c.alone_seen.result (c.alone_seen.ensures.seen clean laws.rooted set numbers sees)

pub returns-in-Some-clause-err : goal.returns-in-Some-clause-err
returns-in-Some-clause-err g c clean rows rise holds = c.alone_seen.ensures.err clean rows holds

pub returns-in-Some-clause-economy : goal.returns-in-Some-clause-economy
returns-in-Some-clause-economy g c id key = c.alone_seen.ensures.economy

pub returns-in-None-clause-asked : goal.returns-in-None-clause-asked
returns-in-None-clause-asked g c clean set numbers sees =
    asked_whole c.args.metamodel.now c.args.parameters.now c.args.statement.now set c.whole_seen.result (c.whole_seen.ensures.seen clean set numbers sees)

pub returns-in-None-clause-economy : goal.returns-in-None-clause-economy
returns-in-None-clause-economy g c id key = absurd (some_none id (sym key ∙ sym c.in_ok-asked.ensures ∙ c.in-None.is))

pub returns-in_err-asked-clause-whole : goal.returns-in_err-asked-clause-whole
returns-in_err-asked-clause-whole g c clean none sees =
    let world = world_of g.B.Behaviour.meaning c.args.metamodel.now c.args.registry.now in
    ok_passed (λ (found : Opened). (set : StoredSet) × AreJustOf world (rows_under c.args.overlay.now sees.rows) set) c.from_residual.result Cause.OutOfMemory c.from_residual.ensures.1

pub returns-in-Some-clause-whole : goal.returns-in-Some-clause-whole
returns-in-Some-clause-whole g c clean none sees = absurd (some_none c.in-Some.id (sym c.in-Some.is ∙ c.in_ok-asked.ensures ∙ none))

pub returns-in-None-clause-whole : goal.returns-in-None-clause-whole
returns-in-None-clause-whole g c clean none sees =
    if_ok c.whole_seen.result (λ found just. (now found, just)) (c.whole_seen.ensures.whole clean sees)
