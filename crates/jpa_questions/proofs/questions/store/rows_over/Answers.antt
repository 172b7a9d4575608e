use Rattle.std.proofs.Common.{◌≡◌, sym, ◌∙◌}
use Rattle.std.proofs.lemmas.Bool.{false≢true}
use Rattle.sqlite.specs.Held.{state}
use Rattle.jpa_cells.specs.meaning.Schema.{no_schema}
use Rattle.jpa_rows.specs.rows.Tables.{schema_of}
use Rattle.jpa_questions.proofs.questions.Kept.{leaves_kept}
use Rattle.jpa_questions.proofs.questions.store.rows_over.Goals as goal

pub returns-in-Err-open-clause-kept : goal.returns-in-Err-open-clause-kept
returns-in-Err-open-clause-kept g c =
    let refused = c.in-Err-open.ensures.refused in
    let some : (state g.S.Store c.args.conn).now.schema ≡ no_schema → ⊥ = λ e. false≢true (sym c.if-is_blank.false ∙ c.is_blank.ensures.1 e) in
    leaves_kept g.S.Store (schema_of c.args.metamodel.now) c.args.conn c.in-Err-open.refused.1 some refused.kept refused.crash
