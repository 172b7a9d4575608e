use Rattle.std.proofs.Common.{rules, to_z-of_z, not, ap, ◌∙◌, arith}
use Rattle.sqlite.specs.Held.{state}
use Rattle.sqlite.specs.State.{HasCleanDisk}
use Rattle.jpa_cells.proofs.meaning.Texts.{row_plain}
use Rattle.jpa_cells.proofs.meaning.Selects.{if_ok, if_err, row_shown, read_keeps, row_survives}
use Rattle.jpa_cells.specs.meaning.Schema.{row_text}
use Rattle.jpa_cells.proofs.meaning.Causes.{row_fault}
use Rattle.jpa_cells.proofs.cells.read.select_row.Goals as goal

pub returns-clause-shows : goal.returns-clause-shows
returns-clause-shows g c clean =
    let old = state g.S.Store c.args.conn.now in
    let new = state g.S.Store c.query_all.new.self in
    let early : HasCleanDisk old = omega (arith, c.query_all.ensures.survives.clean) in
    if_ok c.query_all.result (λ rows. row_shown old new c.requires.cells early c.args.table c.args.row.now rows.items)
    (rw (c.params-to_sql.ensures, c.params-to_sql-2.ensures, to_z-of_z c.ranges.table) at (c.query_all.ensures.ok clean))

pub returns-clause-selects : goal.returns-clause-selects
returns-clause-selects g c =
    let old = state g.S.Store c.args.conn.now in
    let new = state g.S.Store c.query_all.new.self in
    let settled = c.is_autocommit-idle.ensures.settled (c.is_autocommit-idle.ensures.value ∙ ap not c.requires.idle) in
    let early = λ (clean : HasCleanDisk new). let it : HasCleanDisk old = omega (arith, c.query_all.ensures.survives.clean) in it in
    record {
      idle = search rules;
      kept = λ clean live. read_keeps row_text row_plain _ old new c.requires.cells (early clean) settled (λ rows. rows.items) c.query_all.result (c.query_all.ensures.ok clean) (c.query_all.ensures.err clean) live;
      cause = λ clean.
          if_err c.query_all.result (row_fault old new c.requires.cells (early clean) c.args.table c.args.row.now)
          (rw (c.params-to_sql.ensures, c.params-to_sql-2.ensures, to_z-of_z c.ranges.table) at (c.query_all.ensures.err clean));
      survives = row_survives old new _ c.query_all.ensures.survives;
    }
