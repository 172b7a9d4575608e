use Rattle.std.proofs.Common.{arith, rules, SFits, w64, to_z-of_z}
use Rattle.sqlite.specs.Held.{state}
use Rattle.sqlite.specs.State.{HasCleanDisk}
use Rattle.jpa_cells.proofs.meaning.Inside.{fails_inside, insert_steps}
use Rattle.jpa_cells.proofs.meaning.Taking.{insert_takes, insert_fault, refused_as}
use Rattle.jpa_cells.proofs.cells.write.insert.Goals as goal

pub returns-clause-performs : goal.returns-clause-performs
returns-clause-performs g c =
    let old = state g.S.Store c.args.tx.now.conn.now in
    let new = state g.S.Store c.execute.new.self.conn.now in
    let early = λ (clean : HasCleanDisk new). let it : HasCleanDisk old = omega (arith, c.execute.ensures.survives.clean) in it in
    let column : SFits w64 c.args.cell.now.column = search rules in
    record {
      done = λ clean.
          insert_steps old new c.requires.cells (early clean) c.args.table c.args.row.now c.args.cell.now.column c.args.cell.now.value c.execute.result
          (rw (c.params-to_sql.ensures, c.params-to_sql-2.ensures, c.params-to_sql-3.ensures, c.params-to_sql-4.ensures, to_z-of_z c.ranges.table, to_z-of_z column, c.as_slice.ensures) at (c.execute.ensures.runs clean (c.requires.inside (early clean))));
      kept = λ clean. fails_inside _ _ old new c.execute.result (c.execute.ensures.runs clean (c.requires.inside (early clean)));
      survives = search rules;
      cause = λ clean can.
          refused_as _ _ old new c.execute.result (insert_fault old new c.requires.cells (early clean) c.args.table c.args.row.now c.args.cell.now.column c.args.cell.now.value can)
          (rw (c.params-to_sql.ensures, c.params-to_sql-2.ensures, c.params-to_sql-3.ensures, c.params-to_sql-4.ensures, to_z-of_z c.ranges.table, to_z-of_z column, c.as_slice.ensures) at (c.execute.ensures.runs clean (c.requires.inside (early clean))));
    }

pub returns-clause-takes : goal.returns-clause-takes
returns-clause-takes g c clean =
    let old = state g.S.Store c.args.tx.now.conn.now in
    let new = state g.S.Store c.execute.new.self.conn.now in
    let early : HasCleanDisk old = omega (arith, c.execute.ensures.survives.clean) in
    let column : SFits w64 c.args.cell.now.column = search rules in
    insert_takes old new c.requires.cells early c.args.table c.args.row.now c.args.cell.now.column c.args.cell.now.value c.execute.result
    (rw (c.params-to_sql.ensures, c.params-to_sql-2.ensures, c.params-to_sql-3.ensures, c.params-to_sql-4.ensures, to_z-of_z c.ranges.table, to_z-of_z column, c.as_slice.ensures) at (c.execute.ensures.runs clean (c.requires.inside early)))
