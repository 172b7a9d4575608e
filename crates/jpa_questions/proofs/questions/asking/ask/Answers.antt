use Rattle.std.proofs.Common.{ap, sym, subst, ◌∙◌}
use Rattle.std.specs.Prelude.{List, IfErr, IfOk}
use Rattle.jpql_meaning.specs.declared.eval.datum.Datum.{Datum}
use Rattle.jpa_rows.specs.overlay.Overlay.{Changes, rows_under}
use Rattle.jpa_stored.specs.objects.Sets.{StoredSet}
use Rattle.jpa_questions.specs.row_queries.Seen.{AreJustOf}
use Rattle.jpa_behaviour.specs.Served.{world_of_unit}
use Rattle.jpa_questions.specs.by_key.ByKey.{key_of}
use Rattle.jpql_meaning.specs.plan.Selection.{selected}
use Rattle.jpa_questions.specs.row_queries.Answered.{Answers, IsAskingCause}
use Rattle.jpa_questions.specs.questions.Asking.{RefusesRevision}
use Rattle.jpa_questions.proofs.row_queries.Looks.{err_is, looks_passed, ok_passed}
use Rattle.jpa_questions.proofs.questions.Looked.{looks_both, rows_both, rows_first, rows_seen_then, sees_then}
use Rattle.jpa_questions.proofs.questions.Revised.{of_revision, refused_answer, refused_asking, refused_revision}
use Rattle.jpa_questions.proofs.questions.asking.ask.Goals as goal

pub returns-in_err-check_revision-clause-answer : goal.returns-in_err-check_revision-clause-answer
returns-in_err-check_revision-clause-answer g c clean set numbers sees =
    let unit = c.args.unit.now in
    let e = c.in_err-check_revision.field-0.0 in
    let of = of_revision (world_of_unit g.B.Behaviour.meaning unit) c.unit.ensures.described set numbers (sees.of).held sees.rows (sees.of).same in
    let wanted = selected unit.metamodel set c.args.question.now.arguments c.args.question.now.select in
    subst (λ r. Answers r wanted) (sym (err_is c.from_residual.result e c.from_residual.ensures.1)) (refused_answer unit.metamodel sees.rows e (c.in_err-check_revision.ensures.told clean sees.rows sees.held) wanted of)

pub returns-in_err-check_revision-clause-revision : goal.returns-in_err-check_revision-clause-revision
returns-in_err-check_revision-clause-revision g c clean rows holds none =
    let e = c.in_err-check_revision.field-0.0 in
    subst RefusesRevision (sym (err_is c.from_residual.result e c.from_residual.ensures.1)) (refused_revision c.args.unit.now.metamodel rows e (c.in_err-check_revision.ensures.told clean rows holds))

pub returns-in_err-check_revision-clause-err : goal.returns-in_err-check_revision-clause-err
returns-in_err-check_revision-clause-err g c clean rows rise holds =
    let e = c.in_err-check_revision.field-0.0 in
    subst (λ r. IfErr r IsAskingCause) (sym (err_is c.from_residual.result e c.from_residual.ensures.1)) (refused_asking c.args.unit.now.metamodel rows e (c.in_err-check_revision.ensures.told clean rows holds))

pub returns-in_err-check_revision-clause-looks : goal.returns-in_err-check_revision-clause-looks
returns-in_err-check_revision-clause-looks g c =
    let e = c.in_err-check_revision.field-0.0 in
    looks_passed g.R.RowReader c.args.source.now c.check_revision.new.source e c.check_revision.result c.from_residual.result c.in_err-check_revision.was (err_is c.from_residual.result e c.from_residual.ensures.1) c.check_revision.ensures.looks

pub returns-in_err-check_revision-clause-economy : goal.returns-in_err-check_revision-clause-economy
returns-in_err-check_revision-clause-economy g c id is = rows_first g.R.RowReader c.args.source.now c.check_revision.new.source c.check_revision.ensures.economy

pub returns-clause-answer : goal.returns-clause-answer
returns-clause-answer g c clean set numbers sees =
    subst (λ ps. Answers c.run.result (selected c.args.unit.now.metamodel set ps c.args.question.now.select)) c.as_slice.ensures
    (c.run.ensures.answer clean set numbers
    (sees_then g.R.RowReader (world_of_unit g.B.Behaviour.meaning c.args.unit.now) c.new-overlay.result c.args.source.now c.check_revision.new.source set numbers c.new-overlay.ensures c.check_revision.ensures.looks.kept sees))

pub returns-clause-revision : goal.returns-clause-revision
returns-clause-revision g c clean rows holds none = absurd (none (c.in_ok-check_revision.ensures.told (c.run.ensures.looks.was_clean clean) rows holds))

pub returns-clause-err : goal.returns-clause-err
returns-clause-err g c clean rows rise holds = c.run.ensures.err clean rows rise (c.check_revision.ensures.looks.kept rows holds)

pub returns-clause-looks : goal.returns-clause-looks
returns-clause-looks g c = looks_both g.R.RowReader c.args.source.now c.check_revision.new.source c.run.new.source _ c.check_revision.result c.run.result c.in_ok-check_revision.was c.check_revision.ensures.looks c.run.ensures.looks

pub returns-clause-economy : goal.returns-clause-economy
returns-clause-economy g c id is = rows_both g.R.RowReader c.args.source.now c.check_revision.new.source c.run.new.source c.check_revision.ensures.economy (c.run.ensures.economy id (ap (λ ps. key_of c.args.unit.now.metamodel ps c.args.question.now.select) c.as_slice.ensures ∙ is))

pub returns-in_err-check_revision-clause-whole : goal.returns-in_err-check_revision-clause-whole
returns-in_err-check_revision-clause-whole g c clean none sees =
    let world = world_of_unit g.B.Behaviour.meaning c.args.unit.now in
    ok_passed (λ (rows : List (List Datum)). (set : StoredSet) × AreJustOf world sees.rows set) c.from_residual.result c.in_err-check_revision.field-0.0 c.from_residual.ensures.1

pub returns-clause-whole : goal.returns-clause-whole
returns-clause-whole g c clean none sees =
    let world = world_of_unit g.B.Behaviour.meaning c.args.unit.now in
    let asked = ap (λ ps. key_of c.args.unit.now.metamodel ps c.args.question.now.select) c.as_slice.ensures ∙ none in
    let rows = rows_seen_then g.R.RowReader c.args.unit.now.metamodel c.new-overlay.result c.args.source.now c.check_revision.new.source c.new-overlay.ensures c.check_revision.ensures.looks.kept sees in
    subst (λ (ch : Changes). IfOk c.run.result (λ (rs : List (List Datum)). (set : StoredSet) × AreJustOf world (rows_under ch sees.rows) set)) c.new-overlay.ensures (c.run.ensures.whole clean asked rows)
