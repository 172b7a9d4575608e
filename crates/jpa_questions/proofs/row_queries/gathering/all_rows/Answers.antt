use Rattle.std.proofs.Common.{rules, ◌≡◌, sym, subst, MatchResult}
use Rattle.std.specs.List.{flat_map}
use Rattle.jpa_rows.specs.rows.Faults.{IsStoreCause}
use Rattle.jpa_rows.specs.rows.Rows.{Rows, table_rows}
use Rattle.jpa_rows.specs.rows.Tables.{schema_of}
use Rattle.jpa_rows.specs.overlay.Overlay.{rows_under}
use Rattle.jpa_opening.specs.reader.Reads.{AreNumbersOf}
use Rattle.jpa_questions.proofs.row_queries.Gathered.{all_gathered}
use Rattle.jpa_rows.proofs.rows.Looks.{looks_none}
use Rattle.jpa_questions.proofs.row_queries.Looks.{if_passed, match_err, match_weak, memory_store}
use Rattle.jpa_questions.proofs.row_queries.gathering.all_rows.Goals as goal

pub returns-in_err-numbers-clause-rows : goal.returns-in_err-numbers-clause-rows
returns-in_err-numbers-clause-rows g c clean rows rise holds named =
    let e = c.in_err-numbers.field-0.0 in match_err IsStoreCause (λ (found : Rows). found ≡ rows_under c.args.overlay.now rows) c.from_residual.result e c.from_residual.ensures.1 (memory_store e c.in_err-numbers.ensures.err)

pub returns-in_err-numbers-clause-err : goal.returns-in_err-numbers-clause-err
returns-in_err-numbers-clause-err g c clean rows rise holds =
    let e = c.in_err-numbers.field-0.0 in if_passed IsStoreCause c.from_residual.result e c.from_residual.ensures.1 (memory_store e c.in_err-numbers.ensures.err)

pub returns-in_err-numbers-clause-looks : goal.returns-in_err-numbers-clause-looks
returns-in_err-numbers-clause-looks g c = looks_none g.R.RowReader c.from_residual.result c.args.source.now (search rules) (g.met.R.RowReader.still c.args.source.now)

pub returns-clause-rows : goal.returns-clause-rows
returns-clause-rows g c clean rows rise holds named =
    let m = c.args.metamodel.now in
    let seen = rows_under c.args.overlay.now rows in
    let numbers : AreNumbersOf (schema_of m) c.as_slice.result.now = subst (AreNumbersOf (schema_of m)) (sym c.as_slice.ensures.value) c.in_ok-numbers.ensures.ok in
    subst (λ (l : Rows). MatchResult c.rows_seen.result (λ found. found ≡ l) IsStoreCause) (all_gathered (schema_of m) c.as_slice.result.now seen numbers named.rising named.named) (c.rows_seen.ensures.rows clean rows rise holds)

pub returns-clause-err : goal.returns-clause-err
returns-clause-err g c clean rows rise holds = match_weak IsStoreCause (λ (found : Rows). found ≡ flat_map (λ n. table_rows n (rows_under c.args.overlay.now rows)) c.as_slice.result.now) c.rows_seen.result (c.rows_seen.ensures.rows clean rows rise holds)
